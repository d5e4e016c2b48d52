-- The first line with which no front goes on.
use Rattle.std.specs.Prelude.{◌≡◌, ℕ, ◌+◌, List, [], ◌∷◌, ◌++◌, length, true}
use Rattle.std.specs.List.{AllByRecursion}
use Rattle.wh_text.specs.Lines.{IsLine}
use Rattle.wh_words.specs.Lines.{text_of}
use Rattle.wh_front.specs.declared.front.Front.{Front}
use Rattle.wh_front.specs.declared.line.Line.{Line}
use Rattle.wh_front.specs.declared.stage.Stage.{Stage}
use Rattle.wh_front.specs.Spelling.{front_line}
use Rattle.wh_front.specs.Ranges.{LineFits}
use Rattle.wh_front.specs.Fronts.{Fits, front_text}
use Rattle.wh_front.specs.Drafts.{expects}

-- the text is the beginning of some front's
pub record BeginsFront (text : List ℕ) : Type 0 where
  pub front : Front
  pub fits : Fits front
  pub more : List ℕ
  pub whole : front_text front ≡ text ++ more

-- no front's text stands at the beginning of this one
abbrev pub HasNoFront : List ℕ → Type 0
HasNoFront text = (front : Front) (rest : List ℕ) → Fits front → text ≡ front_text front ++ rest → ⊥

-- The text begins with no front. The lines before this one begin some front, and with the line that stands here none does.
pub record IsFirstBad (text : List ℕ) (number : ℕ) : Type 0 where
  pub none : HasNoFront text
  pub before : List (List ℕ)
  pub rest : List ℕ
  pub lines : AllByRecursion IsLine before
  pub parts : text ≡ text_of before ++ rest
  pub place : number ≡ length before + 1
  pub begins : BeginsFront (text_of before)
  pub fault : (line more : List ℕ) → IsLine line → rest ≡ line ++ 10 ∷ more → BeginsFront (text_of before ++ (line ++ 10 ∷ [])) → ⊥

-- the text begins with this line, which may come next, and goes on with the rest
pub record IsNext (stage : Stage) (text : List ℕ) (line : Line) (rest : List ℕ) : Type 0 where
  pub fits : LineFits line
  pub may : expects stage line ≡ true
  pub text_is : text ≡ front_line line ++ 10 ∷ rest

-- it begins with no line that may come next
abbrev pub IsNoNext : Stage → List ℕ → Type 0
IsNoNext stage text = (line : Line) (rest : List ℕ) → IsNext stage text line rest → ⊥
