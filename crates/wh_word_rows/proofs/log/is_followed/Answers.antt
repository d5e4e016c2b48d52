use Rattle.std.proofs.Common.{refl, [], ◌∷◌, lit≤}
use Rattle.wh_word_rows.proofs.log.is_followed.Goals as goal

pub follow-requires : goal.follow-requires
follow-requires c = record { clock = 0; slots = 2 ∷ []; fits = record { clock_fits = lit≤ tt; some = lit≤ tt; few = lit≤ tt; each = ((lit≤ tt, lit≤ tt), tt) }; opening = record { taken = 0 }; opened = refl }
