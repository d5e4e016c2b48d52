-- what reservations tell by
use Rattle.wh_timetable.specs.Timetables.{Noted}
use Rattle.wh_resv.specs.declared.told.Told.{Told}
use Rattle.wh_resv.specs.declared.told.Told.TheVariants.{Kept, Own}

-- the stays that are asked
abbrev pub noted_of : Told → Noted
noted_of (Kept stays) = stays.now
noted_of (Own stays) = stays
