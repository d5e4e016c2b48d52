use Rattle.std.proofs.Common.{refl}
use Rattle.wh_program.proofs.Starved.{whichever}
use Rattle.wh_program.proofs.running.replay.Goals as goal

pub returns-in-Err : goal.returns-in-Err
returns-in-Err g c = rw c.in-None.is (whichever c.args.options.now.deliver _ _ c.in-Err.ensures.unserved c.in-Err.ensures.fault)

pub returns-in-Ok-serve_kept : goal.returns-in-Ok-serve_kept
returns-in-Ok-serve_kept g c = rw c.in-Some.is (
  refl,
  (
    g.L.Journal.synced c.serve_kept.new.file,
    g.L.Journal.contents c.serve_kept.new.file,
    record {
      before = g.L.Journal.contents c.in-Some.files.site;
      after = g.L.Journal.contents c.serve_kept.new.beside;
      synced = g.L.Journal.synced c.serve_kept.new.beside;
      failed = g.L.Journal.failed c.serve_kept.new.beside;
    },
    refl,
    c.in-Ok-serve_kept.ensures.ok,
  ),
)

pub returns-in-Err-serve_kept : goal.returns-in-Err-serve_kept
returns-in-Err-serve_kept g c = rw c.in-Some.is (
  g.L.Journal.failed c.serve_kept.new.file,
  g.L.Journal.synced c.serve_kept.new.file,
  g.L.Journal.contents c.serve_kept.new.file,
  record {
    before = g.L.Journal.contents c.in-Some.files.site;
    after = g.L.Journal.contents c.serve_kept.new.beside;
    synced = g.L.Journal.synced c.serve_kept.new.beside;
    failed = g.L.Journal.failed c.serve_kept.new.beside;
  },
  refl,
  c.in-Err-serve_kept.ensures.fault,
)
