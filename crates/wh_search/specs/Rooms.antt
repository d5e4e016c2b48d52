-- the memory that a search takes
use Rattle.std.specs.Prelude.{ℕ, vec_capacity}
use Rattle.wh_search.specs.declared.noted.Noted.{Noted}

-- for how much there is room in its table
abbrev pub noted_room : Noted → ℕ
noted_room f = vec_capacity f.slots
