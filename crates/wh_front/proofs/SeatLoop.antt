-- Writing the lines of agents one after the other.
use Rattle.std.proofs.Common.{◌≡◌, ℕ, ◌<◌, ◌+◌, List, [], ◌∷◌, ◌++◌, length, take, map, get_or, sym, ap, ◌∙◌}
use Rattle.std.proofs.lemmas.List.{take_more, map-append}
use Rattle.wh_front.specs.declared.front.Seat.{Seat}
use Rattle.wh_front.specs.declared.line.Line.{Line}
use Rattle.wh_front.specs.declared.line.Line.TheVariants as lines
use Rattle.wh_front.specs.Spelling.{front_line}
use Rattle.wh_front.proofs.Lines.{lines_text, one_more}

abbrev pub seats_to : List Seat → ℕ → List Line
seats_to seats i = lines.Agents (length seats) ∷ map lines.Agent (take i seats)

pub seat_pushed : (out before new : List ℕ) (seats : List Seat) (i : ℕ) (seat : Seat) → i < length seats → seat ≡ get_or seats i seat → before ≡ out ++ lines_text (seats_to seats i)
    → new ≡ before ++ (front_line (lines.Agent seat) ++ 10 ∷ []) → new ≡ out ++ lines_text (seats_to seats (i + 1))
seat_pushed out before new seats i seat below is p q =
    let taken : take (i + 1) seats ≡ take i seats ++ seat ∷ [] = take_more seats i seat below ∙ ap (λ (s : Seat). take i seats ++ s ∷ []) (sym is) in
    let all : seats_to seats (i + 1) ≡ seats_to seats i ++ lines.Agent seat ∷ [] =
    ap (λ (ss : List Seat). lines.Agents (length seats) ∷ map lines.Agent ss) taken ∙ ap (λ (ls : List Line). lines.Agents (length seats) ∷ ls) (map-append (λ (s : Seat). lines.Agent s) (take i seats) (seat ∷ [])) in
    one_more out before new (seats_to seats i) (lines.Agent seat) p q ∙ ap (λ (ls : List Line). out ++ lines_text ls) (sym all)
