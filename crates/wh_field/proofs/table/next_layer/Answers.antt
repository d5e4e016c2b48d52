use Rattle.std.proofs.Common.{◌≡◌, ℕ, ◌+◌, ◌-◌, [], take, drop, length, length-append, get_or, ap, ◌∙◌, subst, arith}
use Rattle.std.proofs.lemmas.List.{get_or_read, take_all, take-append-le}
use Rattle.wh_field.specs.Tables.{IsSpreading, IsMarking, AllMet}
use Rattle.wh_field.proofs.Tables.{ground_same, ground_then, ground_walled, marking_ground, todo_inside, layer_begins, layer_step, layer_ends}
use Rattle.wh_field.proofs.Forgets.{listed_marking}
use Rattle.wh_field.proofs.table.next_layer.Goals as goal

pub loop-k-init : goal.loop-k-init
loop-k-init c =
    let n = c.len-end.result in (
      layer_begins c.args.stride c.args.distance c.args.head n c.args.table.now c.args.queue.now.items c.requires.walled (omega arith) (omega arith) c.requires.spreading,
      ground_same c.args.table.now,
      c.requires.room,
      c.requires.listed,
      omega arith,
      take_all n c.args.queue.now.items (omega arith),
    )

pub index-requires : goal.index-requires
index-requires c = let long = c.loop-k.invariant.4 in omega arith

pub spread-requires-clause-above : goal.spread-requires-clause-above
spread-requires-clause-above c =
    let s = c.args.stride in
    let d = c.args.distance + 1 in
    let l = c.loop-k in
    let q = l.queue.items in
    let n = c.len-end.result in
    let now = l.invariant.0 in
    let ground = l.invariant.1 in
    let long = l.invariant.4 in
    let size = ground.size in
    let room = now.room in
    let few = c.requires.walled.few in
    let read : c.index.result.now ≡ get_or q l.k 0 = get_or_read q l.k c.index.result.now (omega arith) c.index.ensures 0 in
    let h = (todo_inside s d l.k n l.table q (drop n q) (ground_walled s c.args.table.now l.table ground c.requires.walled) (omega arith) c.loop-k-test.true long now).0 in
    omega arith

pub spread-requires-clause-below : goal.spread-requires-clause-below
spread-requires-clause-below c =
    let s = c.args.stride in
    let d = c.args.distance + 1 in
    let l = c.loop-k in
    let q = l.queue.items in
    let n = c.len-end.result in
    let now = l.invariant.0 in
    let ground = l.invariant.1 in
    let long = l.invariant.4 in
    let size = ground.size in
    let room = now.room in
    let few = c.requires.walled.few in
    let read : c.index.result.now ≡ get_or q l.k 0 = get_or_read q l.k c.index.result.now (omega arith) c.index.ensures 0 in
    let h = (todo_inside s d l.k n l.table q (drop n q) (ground_walled s c.args.table.now l.table ground c.requires.walled) (omega arith) c.loop-k-test.true long now).1 in
    omega arith

pub loop-k-preserved : goal.loop-k-preserved
loop-k-preserved c =
    let s = c.args.stride in
    let d = c.args.distance + 1 in
    let l = c.loop-k in
    let q = l.queue.items in
    let n = c.len-end.result in
    let now = l.invariant.0 in
    let ground = l.invariant.1 in
    let long = l.invariant.4 in
    let size = ground.size in
    let room = now.room in
    let few = c.requires.walled.few in
    let read : c.index.result.now ≡ get_or q l.k 0 = get_or_read q l.k c.index.result.now (omega arith) c.index.ensures 0 in
    let t' = c.spread.new.table in
    let q' = c.spread.new.queue.items in
    let P : ℕ → Type 0 = λ i. IsMarking s i d l.table q t' q' in
    let Q : ℕ → Type 0 = λ i. AllMet s i t' in
    let marks : IsMarking s (get_or q l.k 0) d l.table q t' q' = subst P read c.spread.ensures.marks in (
      layer_step s d l.k n l.table q t' q' (omega arith) c.loop-k-test.true long now marks (subst Q read c.spread.ensures.met),
      ground_then c.args.table.now l.table t' ground (marking_ground s (get_or q l.k 0) d l.table q t' q' (omega arith) (omega arith) marks),
      c.spread.ensures.room,
      listed_marking s (get_or q l.k 0) d l.table q t' q' (omega arith) marks l.invariant.3,
      omega (arith, ap length marks.listed, length-append q marks.added),
      ap (take n) marks.listed ∙ take-append-le n q marks.added long ∙ l.invariant.5,
    )

pub returns-clause-spreading : goal.returns-clause-spreading
returns-clause-spreading c =
    let s = c.args.stride in
    let d = c.args.distance + 1 in
    let l = c.loop-k in
    let q = l.queue.items in
    let n = c.len-end.result in
    let P : ℕ → Type 0 = λ i. IsSpreading s d l.table (take (n - i) (drop i q)) (drop n q) in
    let Q : ℕ → Type 0 = λ i. IsSpreading s d l.table [] (drop i q) in
    subst Q (let e : n ≡ length c.args.queue.now.items = omega arith in e)
    (layer_ends s d n l.table q (subst P (let e : l.k ≡ n = omega arith in e) l.invariant.0))
