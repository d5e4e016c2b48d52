-- Running clients, as the words of `serve` name them.
use Rattle.std.specs.Prelude.{◌≡◌, ◌≢◌, ◌<◌, ◌≤◌, ◌⊎◌, ◌+◌, ◌==◌, ◌||◌, ℕ, Bool, true, false, List, [], ◌∷◌, length, codes, decimal}
use Rattle.std.specs.List.{AllZip, IsDistinct, after_first, before_first, list_all, list_any, position_or_len, slice_split}
use Rattle.std.specs.Str.{bytes_eq}
use Rattle.wh_client.specs.declared.client.ClientOptions.{ClientOptions}
use Rattle.wh_client.specs.declared.client.ClientRights.{ClientRights}

abbrev pub Text : Type 0
Text = List ℕ

-- the characters that part a client's text: `=` (61), `:` (58) and `,` (44)
abbrev pub is_equals : ℕ → Bool
is_equals c = c == 61

abbrev pub is_colon : ℕ → Bool
is_colon c = c == 58

abbrev pub is_comma : ℕ → Bool
is_comma c = c == 44

abbrev pub Has : (ℕ → Bool) → Text → Type 0
Has test text = position_or_len test text < length text

-- the word names a right
abbrev pub is_right : Text → Bool
is_right word = list_any (bytes_eq word) (codes "submit" ∷ codes "token" ∷ codes "tick" ∷ codes "replace" ∷ codes "close" ∷ codes "stop" ∷ [])

abbrev pub one_if : Bool → ℕ
one_if true = 1
one_if false = 0

abbrev pub count_rights : ClientRights → ℕ
count_rights r = one_if r.submit + one_if r.token + one_if r.tick + one_if r.replace + one_if r.close + one_if r.stop

-- one of the words is this one
abbrev pub names : List Text → Text → Bool
names words word = list_any (λ w. bytes_eq w word) words

-- each word names a right, these are the rights named, and there are no more words than rights: none is repeated
pub record NamesRights (words : List Text) (rights : ClientRights) : Type 0 where
  pub each : list_all is_right words ≡ true
  pub single : length words ≡ count_rights rights
  pub submit : rights.submit ≡ names words (codes "submit")
  pub token : rights.token ≡ names words (codes "token")
  pub tick : rights.tick ≡ names words (codes "tick")
  pub replace : rights.replace ≡ names words (codes "replace")
  pub close : rights.close ≡ names words (codes "close")
  pub stop : rights.stop ≡ names words (codes "stop")

-- the right to every command of the warehouse, and not to stop its service
abbrev pub all_rights : ClientRights
all_rights = record { submit = true; token = true; tick = true; replace = true; close = true; stop = false }

abbrev pub submit_alone : ClientRights
submit_alone = record { submit = true; token = false; tick = false; replace = false; close = false; stop = false }

-- the text is `all`, or it is words by commas, and they name these rights
abbrev pub SpellsRights : Text → ClientRights → Type 0
SpellsRights text rights = ((text ≡ codes "all") × (rights ≡ all_rights))
    ⊎ NamesRights (slice_split is_comma text) rights

-- the text is the number of a client, 0 to 61, in decimal digits
abbrev pub IsNumber : Text → ℕ → Type 0
IsNumber text n = (text ≡ decimal n) × (n ≤ 61)

-- a folder, with the right to submit alone; or a folder, `:` and rights
abbrev pub GivesPlace : Text → ClientOptions → Type 0
GivesPlace text c = (c.folder.now ≢ [])
    × (((¬ Has is_colon text) × (c.folder.now ≡ text) × (c.rights ≡ submit_alone))
    ⊎ (Has is_colon text × (c.folder.now ≡ before_first is_colon text) × SpellsRights (after_first is_colon text) c.rights))

-- the number before the first `=`, and after it a folder and perhaps rights
abbrev pub GivesClient : Text → ClientOptions → Type 0
GivesClient text c = Has is_equals text × IsNumber (before_first is_equals text) c.number
    × GivesPlace (after_first is_equals text) c

-- the two have one number, or one folder
abbrev pub shares : ClientOptions → ClientOptions → Bool
shares c d = c.number == d.number || bytes_eq c.folder.now d.folder.now

-- each text gives its client, in this order, and no two of them share a number or a folder; so there are 62 at most
pub record GiveClients (texts : List Text) (clients : List ClientOptions) : Type 0 where
  pub each : AllZip GivesClient texts clients
  pub apart : IsDistinct shares clients

-- the same client: a folder's name counts by its text, wherever that text lies
abbrev pub IsSameClient : ClientOptions → ClientOptions → Type 0
IsSameClient c d = (c.number ≡ d.number) × (c.folder.now ≡ d.folder.now) × (c.rights ≡ d.rights)
