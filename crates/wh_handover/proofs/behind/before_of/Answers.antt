use Rattle.std.proofs.Common.{◌-◌, ◌∙◌, ℕ, List, length, take, ap}
use Rattle.sha2.specs.Sha256.{sha256}
use Rattle.hex.specs.Hex.{encode_lower}
use Rattle.wh_front.specs.declared.before.Before.TheVariants as before
use Rattle.wh_resume.specs.Behind.{entries_told}
use Rattle.wh_handover.proofs.Lines.{cut_off, fits_in, others_are}
use Rattle.wh_handover.proofs.behind.before_of.Goals as goal

pub slice_bounds-log_of-count : goal.slice_bounds-log_of-count
slice_bounds-log_of-count c =
    let h = c.requires.holds in
    let later = c.in_ok-later.ensures ∙ ap entries_told (others_are c.args.history.now c.args.count) in
    let fits = fits_in c.args.text.now h.0 h.1 c.in_ok-later.later.items c.args.history.now c.args.bytes c.args.count h.2 h.3 later in
    let more = ap (λ (t : List ℕ). length t) c.as_slice-more.ensures.value in
    rw more fits.0

pub returns-clause-value : goal.returns-clause-value
returns-clause-value c = λ head rest is many.
    let later = c.in_ok-later.ensures ∙ ap entries_told (others_are c.args.history.now c.args.count) in
    let cut = cut_off c.args.text.now head rest c.in_ok-later.later.items c.args.history.now c.args.bytes c.args.count is many later in
    c.log_of.ensures.value ∙ ap (λ (t : List ℕ). before.Log c.args.number (length t) (encode_lower (sha256 t))) (ap (λ n. take (c.args.bytes - n) c.args.text.now) (ap (λ (t : List ℕ). length t) c.as_slice-more.ensures.value) ∙ cut)
