-- Of a text one thing can be said.
use Rattle.std.proofs.Common.{◌≡◌, ℕ, List, length, ap, sym, ◌∙◌}
use Rattle.wh_points.specs.Points.{Site}
use Rattle.wh_log.specs.Logs.{Content}
use Rattle.wh_log.proofs.LogLaws.{one_content, one_first_bad, no_log}
use Rattle.wh_judge.specs.declared.verifier.Verified.{Verified}
use Rattle.wh_judge.specs.declared.verifier.Verified.TheVariants as told
use Rattle.wh_judge.specs.Verifying.{IsRunOf, Says}

pub one_verdict : (site : Site) (text : List ℕ) (a b : Verified) → Says site text a → Says site text b → a ≡ b
one_verdict site text (told.Run m) (told.Run n) x y =
    let same : x.0 ≡ y.0 = one_content text x.0 y.0 x.1 y.1 in
    ap (λ (k : ℕ). told.Run k) (sym x.3 ∙ ap (λ (c : Content). length c.entries) same ∙ y.3)
one_verdict site text (told.Run m) (told.Bad n) x y = absurd (no_log (IsRunOf site) text n y (record { content = x.0; is = x.1; holds = x.2 }))
one_verdict site text (told.Bad m) (told.Run n) x y = absurd (no_log (IsRunOf site) text m x (record { content = y.0; is = y.1; holds = y.2 }))
one_verdict site text (told.Bad m) (told.Bad n) x y = ap (λ (k : ℕ). told.Bad k) (one_first_bad (IsRunOf site) text m n x y)
