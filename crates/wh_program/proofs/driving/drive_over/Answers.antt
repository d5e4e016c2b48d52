use Rattle.std.proofs.Common.{refl}
use Rattle.wh_program.proofs.Late.{drove_over}
use Rattle.wh_program.proofs.driving.drive_over.Goals as goal

-- over files
pub returns-in-Some : goal.returns-in-Some
returns-in-Some g c =
    let told = g.L.Journal.contents in
    let kept = g.L.Journal.synced in
    let failed = g.L.Journal.failed in
    rw c.in-Some.is (drove_over _ _ _ c.args.options.now c.args.pace
    (record { log = told c.in-Some.files.log; site = told c.in-Some.files.site; arrivals = told c.in-Some.files.arrivals })
    c.serve_convoy.result _ _ _ _
    (record { log = told c.serve_convoy.new.file; arrivals = told c.serve_convoy.new.arrivals })
    (record { log = kept c.serve_convoy.new.file; arrivals = kept c.serve_convoy.new.arrivals })
    (failed c.serve_convoy.new.file) (failed c.serve_convoy.new.arrivals)
    (record { before = told c.in-Some.files.site; after = told c.serve_convoy.new.beside; synced = kept c.serve_convoy.new.beside; failed = failed c.serve_convoy.new.beside })
    refl c.serve_convoy.ensures.ok c.serve_convoy.ensures.fault)
