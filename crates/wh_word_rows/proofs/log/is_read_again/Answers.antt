use Rattle.std.proofs.Common.{rules, ◌≡◌, [], ◌∷◌, lit≤, lit<, subst, sym}
use Rattle.wh_log.specs.declared.version.Version.TheVariants.{Two}
use Rattle.wh_log.specs.Logs.{Content, Fits}
use Rattle.wh_word_rows.proofs.log.is_read_again.Goals as goal

small_fits : (log : Content) → log ≡ record { clock = 7; slots = 4 ∷ 64 ∷ []; entries = [] } → Fits Two log
small_fits log e =
    subst (Fits Two) (sym e) (record {
      opens = record { clock_fits = lit≤ tt; some = lit≤ tt; few = lit≤ tt; each = ((lit≤ tt, lit≤ tt), ((lit≤ tt, lit≤ tt), tt)) };
      entries = tt;
      count = lit< tt;
    })

pub written_again-written-requires : goal.written_again-written-requires
written_again-written-requires c = small_fits c.new-log.result (search rules)
