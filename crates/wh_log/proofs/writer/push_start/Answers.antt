use Rattle.std.proofs.Common.{◌≡◌, List, ℕ, ◌++◌, ◌∷◌, [], map, decimal, codes, sym, ap, ◌∙◌, rules, append_assoc}
use Rattle.wh_log.specs.Spaced.{spaced}
use Rattle.wh_log.proofs.Spacing.{line-spaced}
use Rattle.wh_log.specs.Logs.{start_line}
use Rattle.wh_log.proofs.writer.push_start.Goals as goal

pieces : (out a b c d e : List ℕ) (start clock name slots : List ℕ) → a ≡ out ++ start → b ≡ a ++ 32 ∷ clock → c ≡ b ++ 32 ∷ name → d ≡ c ++ slots → e ≡ d ++ 10 ∷ []
    → e ≡ out ++ ((start ++ 32 ∷ (clock ++ 32 ∷ (name ++ slots))) ++ 10 ∷ [])
pieces out a b c d e start clock name slots p q r s t = rw (t, s, r, q, p) (simp append_assoc)

pub returns : goal.returns
returns c =
    let slots = map decimal c.args.slots.now in
    let line : start_line c.args.clock c.args.slots.now ≡ codes "start" ++ spaced (decimal c.args.clock ∷ codes "slots" ∷ slots) = line-spaced (codes "start") (decimal c.args.clock ∷ codes "slots" ∷ slots) in
    pieces c.args.out.now.items c.extend_from_slice.new.self.items c.push_numeral.new.out.items c.push_word.new.out.items c.push_slots.new.out.items c.push.new.self.items
    (codes "start") (decimal c.args.clock) (codes "slots") (spaced slots) (search rules) (search rules) (search rules) (search rules) (search rules)
    ∙ ap (λ (t : List ℕ). c.args.out.now.items ++ (t ++ 10 ∷ [])) (sym line)
