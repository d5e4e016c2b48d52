-- what came before the entries of a log
use Rattle.std.specs.Prelude.{ℕ}

-- what came before the entries of a log: entries of the run in other logs, and lines of this one
pub record Before : Type 0 where
  pub entries : ℕ
  pub lines : ℕ
