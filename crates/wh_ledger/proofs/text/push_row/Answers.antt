use Rattle.std.proofs.Common.{◌≡◌, ℕ, List, [], ◌∷◌, ◌++◌, codes, decimal, append_assoc, rules}
use Rattle.wh_ledger.proofs.text.push_row.Goals as goal

-- one piece after the other
pieces : (out a b c d e f g h : List ℕ) (client submitted open_tasks assigned carried done time : List ℕ) (before_submitted before_open before_assigned before_carried before_done before_time : List ℕ)
    → a ≡ out ++ client → b ≡ a ++ before_submitted ++ submitted → c ≡ b ++ before_open ++ open_tasks → d ≡ c ++ before_assigned ++ assigned → e ≡ d ++ before_carried ++ carried → f ≡ e ++ before_done ++ done → g ≡ f ++ before_time ++ time → h ≡ g ++ 10 ∷ []
    → h ≡ out ++ ((client ++ before_submitted ++ submitted ++ before_open ++ open_tasks ++ before_assigned ++ assigned ++ before_carried ++ carried ++ before_done ++ done ++ before_time ++ time) ++ 10 ∷ [])
pieces out a b c d e f g h client submitted open_tasks assigned carried done time before_submitted before_open before_assigned before_carried before_done before_time p q r t u v w x = rw (x, w, v, u, t, r, q, p) (simp append_assoc)

pub returns : goal.returns
returns c =
    let row = c.args.row.now in
    pieces c.args.out.now.items c.extend_from_slice.new.self.items c.push_number.new.out.items c.push_number-2.new.out.items c.push_number-3.new.out.items c.push_number-4.new.out.items c.push_number-5.new.out.items c.push_number-6.new.out.items c.push.new.self.items
    row.client (decimal row.submitted) (decimal row.open_tasks) (decimal row.assigned) (decimal row.carried) (decimal row.done) (decimal row.time)
    (codes " submitted ") (codes " open ") (codes " assigned ") (codes " carried ") (codes " done ") (codes " time ")
    (search rules) (search rules) (search rules) (search rules) (search rules) (search rules) (search rules) (search rules)
