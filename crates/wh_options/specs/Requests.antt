-- Command lines that ask for help or for the version.
use Rattle.std.specs.Prelude.{◌≡◌, ◌⊎◌, List, [], ◌∷◌, ◌++◌, codes, true}
use Rattle.std.specs.List.{list_any}
use Rattle.std.specs.Str.{bytes_eq}
use Rattle.clap.specs.Words.{kind_of}
use Rattle.clap.specs.declared.error.Error.{Error}
use Rattle.clap.specs.declared.error.kind.ErrorKind.{ErrorKind}
use Rattle.clap.specs.declared.error.kind.ErrorKind.TheVariants.{OutOfMemory}
use Rattle.wh_options.specs.Setting.{Text}

-- the flags that ask for help
abbrev pub help_flags : List Text
help_flags = codes "--help" ∷ codes "-h" ∷ []

-- the flags that ask for the version
abbrev pub version_flags : List Text
version_flags = codes "--version" ∷ codes "-V" ∷ []

-- the names of the subcommands
abbrev pub subcommand_names : List Text
subcommand_names = codes "check" ∷ codes "replay" ∷ codes "verify" ∷ codes "live" ∷ codes "serve" ∷ codes "state" ∷ []

-- nothing, or the name of a subcommand
abbrev pub IsFront : List Text → Type 0
IsFront front = (front ≡ [])
    ⊎ ((name : Text) × (front ≡ name ∷ []) × (list_any (bytes_eq name) subcommand_names ≡ true))

-- the words are a program's name, perhaps a subcommand, one of these flags, and any further words
pub record AsksBy (flags : List Text) (words : List Text) : Type 0 where
  pub program : Text
  pub front : List Text
  pub flag : Text
  pub after : List Text
  pub words_are : words ≡ program ∷ front ++ flag ∷ after
  pub is_front : IsFront front
  pub is_flag : list_any (bytes_eq flag) flags ≡ true

-- the error is of this kind, but for lack of memory
abbrev pub IsKind : ErrorKind → Error → Type 0
IsKind kind e = (kind_of e ≡ kind) ⊎ (kind_of e ≡ OutOfMemory)
