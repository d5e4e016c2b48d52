-- Words with one space between them.
use Rattle.std.specs.Prelude.{◌≡◌, ℕ, Bool, true, List, ◌==◌, nat_lt}
use Rattle.std.specs.List.{list_all, slice_split, join_with_byte}

-- the byte 32
abbrev pub is_space : ℕ → Bool
is_space b = b == 32

-- the parts between single spaces, empty ones too: one more than there are spaces
abbrev pub words_of : List ℕ → List (List ℕ)
words_of line = slice_split is_space line

-- these words as a line
abbrev pub line_of : List (List ℕ) → List ℕ
line_of words = join_with_byte 32 words

-- a byte that no line feed and no space is: one above the space
abbrev pub is_plain : ℕ → Bool
is_plain b = nat_lt 32 b

-- neither a space nor a line feed stands in the word
abbrev pub IsPlain : List ℕ → Type 0
IsPlain word = list_all is_plain word ≡ true
