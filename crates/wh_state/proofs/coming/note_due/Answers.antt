use Rattle.std.proofs.Common.{◌≡◌, arith, get_or, ◌∙◌, []}
use Rattle.std.proofs.lemmas.List.{get_or_default}
use Rattle.std.proofs.lemmas.Option.{slice_get-get_or, slice_get_within}
use Rattle.wh_tasks.specs.declared.task.Load.{Load}
use Rattle.wh_path.specs.Paths.{path_of}
use Rattle.wh_state.proofs.NextStops.{load-of, due-put, away-own}
use Rattle.wh_state.proofs.coming.note_due.Goals as goal

pub due_of-requires : goal.due_of-requires
due_of-requires c = λ n names.
    let load : Load = get_or c.args.loads.now c.args.agent Load.None in
    let has = slice_get-get_or c.args.loads.now c.args.agent Load.None (let e = c.requires.each in omega arith) in
    let holds = c.requires.tied.holds c.args.agent n load has names in
    slice_get_within c.args.tasks.now.tasks n holds.task holds.there

pub returns : goal.returns
returns c =
    let paths = c.args.paths.now in
    let load : Load = get_or c.args.loads.now c.args.agent Load.None in
    let has = slice_get-get_or c.args.loads.now c.args.agent Load.None (let e = c.requires.each in omega arith) in
    let path : c.index-paths-i.result ≡ path_of paths c.args.agent = c.index-paths-i.is ∙ get_or_default paths c.args.agent c.index-paths-i.result [] c.requires.known in
    rw c.put.ensures (due-put c.args.agent c.args.clock paths c.args.tasks.now.tasks c.args.dues.now c.due_of.result c.requires.known c.requires.others
    (away-own c.args.clock (path_of paths c.args.agent) c.args.tasks.now.tasks c.due_of.result c.args.agent load
    (load-of c.args.loads.now c.args.tasks.now.tasks c.args.agent load c.requires.tied has) (rw path at c.due_of.ensures)))
