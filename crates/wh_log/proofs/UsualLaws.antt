-- Usual entries, read off the front of a text.
use Rattle.std.proofs.Common.{◌≡◌, ℕ, ◌≤◌, true, List, [], ◌∷◌, ◌++◌, map, codes, decimal, refl, sym, ap, ◌∙◌, subst, append_assoc, arith}
use Rattle.std.proofs.Math.Dec.{leb as nat_le}
use Rattle.std.proofs.lemmas.Bool.{leb-true}
use Rattle.std.proofs.lemmas.List.{append-nil, map-append}
use Rattle.std.proofs.lemmas.Grind.{flat_map-append}
use Rattle.std.specs.List.{AllByRecursion}
use Rattle.wh_grid.specs.Grids.{IsMove}
use Rattle.wh_grid.specs.declared.cell.Cell.{Cell}
use Rattle.wh_event.specs.declared.event.Event.TheVariants.{Submit}
use Rattle.wh_event.specs.declared.reply.Reply.TheVariants.{Accepted, Took}
use Rattle.wh_log.specs.declared.version.Version.{Version}
use Rattle.wh_log.specs.declared.version.Version.TheVariants.{One, Two}
use Rattle.wh_log.specs.Logs.{most_stops}
use Rattle.wh_log.specs.Ranges.{Follow, IsInside, IsPath}
use Rattle.wh_log.specs.Reading.{apart}
use Rattle.wh_log.specs.Spaced.{spaced}
use Rattle.wh_log.specs.Spelling.{cell_word, entry_line}
use Rattle.wh_log.specs.Told.{full_text}
use Rattle.wh_log.proofs.CellLaws.{near_move}
use Rattle.wh_log.proofs.Spacing.{line-spaced}

-- each version allows two stops
pub two_stops : (version : Version) → 2 ≤ most_stops version
two_stops One = omega arith
two_stops Two = omega arith

inside_more : (cells : List Cell) (d : Cell) → AllByRecursion IsInside cells → IsInside d → AllByRecursion IsInside (cells ++ d ∷ [])
inside_more [] d h i = (i, tt)
inside_more (cell ∷ cells) d h i = (h.0, inside_more cells d h.1 i)

follow_more : (a : Cell) (front : List Cell) (c d : Cell) → Follow a (front ++ c ∷ []) → IsMove c d → Follow a ((front ++ c ∷ []) ++ d ∷ [])
follow_more a [] c d f m = (f.0, (m, tt))
follow_more a (cell ∷ front) c d f m = (f.0, follow_more cell front c d f.1 m)

path_more : (front : List Cell) (c d : Cell) → IsPath (front ++ c ∷ []) → IsInside d → IsMove c d → IsPath ((front ++ c ∷ []) ++ d ∷ [])
path_more [] c d p i m = (inside_more (c ∷ []) d p.0 i, (m, tt))
path_more (cell ∷ front) c d p i m = (inside_more (cell ∷ (front ++ c ∷ [])) d p.0 i, follow_more cell front c d p.1 m)

-- a path that ends at a cell goes on with one near it
pub path_goes : (path front : List Cell) (c d : Cell) → path ≡ front ++ c ∷ [] → IsPath path → IsInside d → nat_le (apart c d) 1 ≡ true → IsPath (path ++ d ∷ [])
path_goes path front c d is p i near =
    let more : IsPath ((front ++ c ∷ []) ++ d ∷ []) = path_more front c d (subst IsPath is p) i (near_move c d (leb-true _ _ near)) in
    subst (λ (cells : List Cell). IsPath (cells ++ d ∷ [])) (sym is) more

-- its text goes on with a space and that cell
pub text_more : (cells : List Cell) (d : Cell) (text rest behind after : List ℕ) → text ≡ spaced (map cell_word cells) ++ rest → rest ≡ 32 ∷ behind → behind ≡ cell_word d ++ after
    → text ≡ spaced (map cell_word (cells ++ d ∷ [])) ++ after
text_more cells d text rest behind after so_far space next =
    let more : spaced (map cell_word (cells ++ d ∷ [])) ≡ spaced (map cell_word cells) ++ 32 ∷ cell_word d =
    ap spaced (map-append cell_word cells (d ∷ [])) ∙ flat_map-append (λ word. 32 ∷ word) (map cell_word cells) (cell_word d ∷ []) ∙ last in
    rw (so_far, space, next, more) (sym (append_assoc (spaced (map cell_word cells)) (32 ∷ cell_word d) after))
  where
    last : spaced (map cell_word cells) ++ ((32 ∷ cell_word d) ++ []) ≡ spaced (map cell_word cells) ++ 32 ∷ cell_word d
    last = simp append-nil refl

-- the words of a request that took a task, in a row
pub took_text : (task : ℕ) (path : List Cell) (a b c d e : List ℕ) → a ≡ decimal task ++ 32 ∷ b → b ≡ codes "path " ++ c → 32 ∷ c ≡ spaced (map cell_word path) ++ d → d ≡ 10 ∷ e
    → codes "took " ++ a ≡ full_text (Took task path) ++ 10 ∷ e
took_text task path a b c d e p q r s =
    let cells : List ℕ = spaced (map cell_word path) in
    let whole : full_text (Took task path) ≡ codes "took " ++ (decimal task ++ 32 ∷ (codes "path" ++ cells)) =
    ap (λ (t : List ℕ). codes "took " ++ (decimal task ++ 32 ∷ t)) (line-spaced (codes "path") (map cell_word path)) in
    let tail : 32 ∷ c ≡ cells ++ 10 ∷ e = r ∙ ap (λ (t : List ℕ). cells ++ t) s in
    ap (λ (t : List ℕ). codes "took " ++ t) (p ∙ ap (λ (t : List ℕ). decimal task ++ 32 ∷ t) q ∙ ap (λ (t : List ℕ). decimal task ++ 32 ∷ (codes "path" ++ t)) tail
    ∙ sym (append_assoc (decimal task) (32 ∷ (codes "path" ++ cells)) (10 ∷ e)))
    ∙ ap (λ (t : List ℕ). t ++ 10 ∷ e) (sym whole)

-- the words of a task of two stops that was accepted, in a row
pub submit_text : (caller task : ℕ) (client first second : List ℕ) (stops : List (List ℕ)) (a b c d e f : List ℕ) → a ≡ client ++ 32 ∷ b → b ≡ first ++ 32 ∷ c → c ≡ second ++ 32 ∷ d
    → d ≡ codes "= accepted " ++ e → e ≡ decimal task ++ 10 ∷ f → stops ≡ first ∷ second ∷ []
    → decimal caller ++ (codes " submit " ++ a) ≡ entry_line (record { caller = caller; event = Submit client stops; reply = Accepted task }) ++ 10 ∷ f
submit_text caller task client first second stops a b c d e f p q r s t u = rw (p, q, r, s, t, u) (simp append_assoc)
