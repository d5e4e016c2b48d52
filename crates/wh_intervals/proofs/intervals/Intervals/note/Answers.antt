use Rattle.std.proofs.Common.{◌≡◌, ℕ, ◌∙◌, List, [], ◌∷◌, ◌++◌, length, map, take, drop, Option, None, refl, sym, ap, subst, arith}
use Rattle.wh_intervals.specs.Closings.{closed_by}
use Rattle.wh_intervals.specs.Places.{slot, kept, known_in, IsLinked, IsLatest, AreOthers}
use Rattle.wh_intervals.specs.declared.interval.Interval.{Interval}
use Rattle.wh_intervals.specs.declared.intervals.Noted.{Noted}
use Rattle.wh_intervals.specs.declared.known.Known.{Known}
use Rattle.wh_intervals.proofs.Places.{closed_push, linked_push, latest_push, kept_size, kept_others, kept_latest, kept_known, written_back}
use Rattle.wh_intervals.proofs.intervals.Intervals.note.Goals as goal
use Rattle.wh_intervals.proofs.intervals.Intervals.note.Goals.{After-make_room, After-link}

-- where there is room nothing else has changed
room : (c : After-make_room) → map kept c.make_room.new.self ≡ map kept c.self.inside.noted.items
room c = c.make_room.ensures ∙ sym (ap (λ (l : List Noted). map kept l) c.self.view_is)

pub link-requires-clause-linked : goal.link-requires-clause-linked
link-requires-clause-linked c =
    let a = (goal.at.link-requires-clause-linked c).After-make_room in
    let s = c.self-2.inside in
    let before = s.noted.items in
    let heads = s.heads.items in
    let x : Noted = record { interval = c.args.interval; known = record { newest = c.args.newest; since = None }; before = 0 } in
    let same : map kept before ≡ map kept c.self.inside.noted.items = ap (λ (l : List Noted). map kept l) c.self-2.view_is ∙ room a in
    let size : length before ≡ c.len-place.result = omega (arith, kept_size before c.self.inside.noted.items same, c.len-place.ensures, c.self.inside.noted.ok.0) in
    let items : c.deref_mut-2.result.now ≡ before ++ x ∷ [] = c.deref_mut-2.ensures.value ∙ c.in_ok-push.ensures.items in
    let pushed = linked_push (slot (length heads)) heads before x (length before) (omega arith) c.self-2.invariant.1 in
    let counted : IsLinked (slot (length heads)) heads (before ++ x ∷ []) c.len-place.result = subst (λ (n : ℕ). IsLinked (slot (length heads)) heads (before ++ x ∷ []) n) size pushed in
    let listed : IsLinked (slot (length heads)) heads c.deref_mut-2.result.now c.len-place.result = subst (λ (l : List Noted). IsLinked (slot (length heads)) heads l c.len-place.result) (sym items) counted in
    subst (λ (h : List ℕ). IsLinked (slot (length h)) h c.deref_mut-2.result.now c.len-place.result) (sym c.deref_mut.ensures.value) listed

-- what is there in the end, but for the links
kept_last : (c : After-link) → map kept c.link.new.noted ≡ map kept (c.self-2.inside.noted.items ++ record { interval = c.args.interval; known = record { newest = c.args.newest; since = None }; before = 0 } ∷ [])
kept_last c = c.link.ensures.same ∙ ap (λ (l : List Noted). map kept l) (c.deref_mut-2.ensures.value ∙ c.in_ok-push.ensures.items)

-- and it is written back
back : (c : After-link) → take c.push.new.self.len (c.link.new.noted ++ drop (length c.link.new.noted) c.push.new.self.items) ≡ c.link.new.noted
back c =
    let size = kept_size c.link.new.noted c.push.new.self.items (c.link.ensures.same ∙ ap (λ (l : List Noted). map kept l) c.deref_mut-2.ensures.value) in
    written_back c.link.new.noted c.push.new.self.items c.push.new.self.len size (omega (arith, c.push.new.self.ok.0))

pub returns-clause-latest : goal.returns-clause-latest
returns-clause-latest c =
    let a = (goal.at.returns-clause-latest c).After-make_room in
    let b = (goal.at.returns-clause-latest c).After-link in
    let i = c.args.interval in
    let before = c.self-2.inside.noted.items in
    let x : Noted = record { interval = i; known = record { newest = c.args.newest; since = None }; before = 0 } in
    let same : map kept before ≡ map kept c.self.inside.noted.items = ap (λ (l : List Noted). map kept l) c.self-2.view_is ∙ room a in
    let size : length before ≡ c.len-place.result = omega (arith, kept_size before c.self.inside.noted.items same, c.len-place.ensures, c.self.inside.noted.ok.0) in
    let last : IsLatest c.link.new.noted i (length before) = kept_latest c.link.new.noted (before ++ x ∷ []) i (length before) (kept_last b) (latest_push before x) in
    subst (λ (l : List Noted). IsLatest l i c.len-place.result) (sym (back b)) (subst (λ (n : ℕ). IsLatest c.link.new.noted i n) size last)

pub returns-clause-same : goal.returns-clause-same
returns-clause-same c =
    let a = (goal.at.returns-clause-same c).After-make_room in
    let b = (goal.at.returns-clause-same c).After-link in
    let first = c.self.inside.noted.items in
    let before = c.self-2.inside.noted.items in
    let x : Noted = record { interval = c.args.interval; known = record { newest = c.args.newest; since = None }; before = 0 } in
    let same : map kept before ≡ map kept first = ap (λ (l : List Noted). map kept l) c.self-2.view_is ∙ room a in
    let none : AreOthers first c.args.interval = subst (λ (l : List Noted). AreOthers l c.args.interval) (sym c.self.view_is) c.requires in
    let known : List Noted → Interval → Option ℕ = λ l. closed_by (known_in l) in
    let closed : (Interval → Option Known) → Interval → Option ℕ = λ f. closed_by f in
    ap known (back b) ∙ ap closed (kept_known c.link.new.noted (before ++ x ∷ []) (kept_last b)) ∙ closed_push before x (kept_others before first c.args.interval same none) refl
    ∙ ap closed (kept_known before first same) ∙ ap known c.self.view_is
