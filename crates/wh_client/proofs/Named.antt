-- Words and the rights that they name.
use Rattle.std.proofs.Common.{◌≡◌, List, [], ◌∷◌, length, map, refl, sym, ap, ◌∙◌, Bool, true, false, Option, Some, None, Bor, inl, inr, subst, codes, true≢false, ◌||◌, ◌&&◌}
use Rattle.std.specs.Prelude.{MatchOption}
use Rattle.std.specs.List.{list_all, list_any, slice_split}
use Rattle.std.specs.Str.{bytes_eq}
use Rattle.std.proofs.lemmas.List.{length-map}
use Rattle.std.proofs.lemmas.Slice.Eq.{bytes_eq-Decides}
use Rattle.wh_client.specs.Clients.{NamesRights, SpellsRights, Text, count_rights, is_comma, is_right, names}
use Rattle.wh_client.specs.declared.client.ClientRights.{ClientRights}

abbrev pub shown : List (Bor Text) → List Text
shown words = map (λ w. w.now) words

any_shown : (p : Text → Bool) (ws : List (Bor Text)) → list_any (λ w. p w.now) ws ≡ list_any p (shown ws)
any_shown p [] = refl
any_shown p (w ∷ ws) = ap (λ b. p w.now || b) (any_shown p ws)

all_shown : (p : Text → Bool) (ws : List (Bor Text)) → list_all p (shown ws) ≡ list_all (λ w. p w.now) ws
all_shown p [] = refl
all_shown p (w ∷ ws) = ap (λ b. p w.now && b) (all_shown p ws)

length_shown : (ws : List (Bor Text)) → length (shown ws) ≡ length ws
length_shown ws = length-map ws (λ w. w.now)

-- what the words name, of whatever number
pub record AreNamed (ws : List (Bor Text)) (rights : ClientRights) : Type 0 where
  pub submit : rights.submit ≡ list_any (λ w. bytes_eq w.now (codes "submit")) ws
  pub token : rights.token ≡ list_any (λ w. bytes_eq w.now (codes "token")) ws
  pub tick : rights.tick ≡ list_any (λ w. bytes_eq w.now (codes "tick")) ws
  pub replace : rights.replace ≡ list_any (λ w. bytes_eq w.now (codes "replace")) ws
  pub close : rights.close ≡ list_any (λ w. bytes_eq w.now (codes "close")) ws
  pub stop : rights.stop ≡ list_any (λ w. bytes_eq w.now (codes "stop")) ws

pub named : (ws : List (Bor Text)) (rights : ClientRights) → AreNamed ws rights → list_all (λ w. is_right w.now) ws ≡ true → length ws ≡ count_rights rights → NamesRights (shown ws) rights
named ws rights are each single = record {
  each = all_shown is_right ws ∙ each;
  single = length_shown ws ∙ single;
  submit = are.submit ∙ any_shown (λ w. bytes_eq w (codes "submit")) ws;
  token = are.token ∙ any_shown (λ w. bytes_eq w (codes "token")) ws;
  tick = are.tick ∙ any_shown (λ w. bytes_eq w (codes "tick")) ws;
  replace = are.replace ∙ any_shown (λ w. bytes_eq w (codes "replace")) ws;
  close = are.close ∙ any_shown (λ w. bytes_eq w (codes "close")) ws;
  stop = are.stop ∙ any_shown (λ w. bytes_eq w (codes "stop")) ws;
}

-- words name one set of rights
pub names_once : (words : List Text) (r s : ClientRights) → NamesRights words r → NamesRights words s → r ≡ s
names_once words r s a b = λ i. record {
  submit = (a.submit ∙ sym b.submit) i;
  token = (a.token ∙ sym b.token) i;
  tick = (a.tick ∙ sym b.tick) i;
  replace = (a.replace ∙ sym b.replace) i;
  close = (a.close ∙ sym b.close) i;
  stop = (a.stop ∙ sym b.stop) i;
}

pub not_each : (ws : List (Bor Text)) → list_all (λ w. is_right w.now) ws ≡ false → (r : ClientRights) → NamesRights (shown ws) r → ⊥
not_each ws none r names = true≢false (sym names.each ∙ all_shown is_right ws ∙ none)

-- the rights that are named are these
are_same : (ws : List (Bor Text)) (r s : ClientRights) → NamesRights (shown ws) r → AreNamed ws s → r ≡ s
are_same ws r s a b = λ i. record {
  submit = (a.submit ∙ sym (any_shown (λ w. bytes_eq w (codes "submit")) ws) ∙ sym b.submit) i;
  token = (a.token ∙ sym (any_shown (λ w. bytes_eq w (codes "token")) ws) ∙ sym b.token) i;
  tick = (a.tick ∙ sym (any_shown (λ w. bytes_eq w (codes "tick")) ws) ∙ sym b.tick) i;
  replace = (a.replace ∙ sym (any_shown (λ w. bytes_eq w (codes "replace")) ws) ∙ sym b.replace) i;
  close = (a.close ∙ sym (any_shown (λ w. bytes_eq w (codes "close")) ws) ∙ sym b.close) i;
  stop = (a.stop ∙ sym (any_shown (λ w. bytes_eq w (codes "stop")) ws) ∙ sym b.stop) i;
}

pub not_single : (ws : List (Bor Text)) (rights : ClientRights) → AreNamed ws rights → (length ws ≡ count_rights rights → ⊥) → (r : ClientRights) → NamesRights (shown ws) r → ⊥
not_single ws rights are differs r names =
    differs (sym (length_shown ws) ∙ names.single ∙ ap count_rights (are_same ws r rights names are))

-- a text that is not `all`
pub spelled : (text : Text) (ws : List (Bor Text)) (found : Option ClientRights) → bytes_eq text (codes "all") ≡ false → shown ws ≡ slice_split is_comma text
    → MatchOption found ((r : ClientRights) → NamesRights (shown ws) r → ⊥) (NamesRights (shown ws)) → MatchOption found ((r : ClientRights) → SpellsRights text r → ⊥) (SpellsRights text)
spelled text ws None other pieces none = λ r spells. elim spells [
  | inl all ↦ true≢false (sym ((bytes_eq-Decides text (codes "all")).1 all.0) ∙ other)
  | inr names ↦ none r (subst (λ words. NamesRights words r) (sym pieces) names)
]
spelled text ws (Some rights) other pieces names = inr (subst (λ words. NamesRights words rights) pieces names)
