-- A field that was asked for stays near the front of the store: each request puts one before it, and takes away none but the last.
use Rattle.std.proofs.Common.{◌≡◌, ℕ, zero, suc, ◌+◌, ◌-◌, ◌<◌, ◌≤◌, Bool, true, false, cond, List, [], ◌∷◌, take, Option, Some, None, IsSomeAnd, refl, sym, ◌∙◌, ap, subst, arith}
use Rattle.std.specs.Option.{IfSome, option_map_or}
use Rattle.std.specs.Map.{lookup, lookup_entry, remove_entry}
use Rattle.lru.specs.LruCache.{LruCache, put_entries}
use Rattle.lru.proofs.CallerLemmas.{Contains-lookup_entry}
use Rattle.wh_grid.specs.declared.cell.Cell.{Cell}
use Rattle.wh_field.specs.Growing.{Growing}
use Rattle.wh_grid.specs.Cells.{is_cell}
use Rattle.wh_shared.specs.Shares.{HasAsked, stored, room}
use Rattle.wh_shared.specs.declared.store.SharedFields.{SharedFields}
use Rattle.wh_grid.proofs.Cells.{is_cell-same, is_cell_equiv}

-- what is found among the first n is found among one more
grow : {K X : Type 0} (t : K → Bool) (P : X → Type 0) (n : ℕ) (es : List (K × X)) → IsSomeAnd (lookup t (take n es)) P → IsSomeAnd (lookup t (take (suc n) es)) P
grow t P zero es h = absurd h
grow t P (suc n) [] h = absurd h
grow t P (suc n) (e ∷ es) h = (elim (t e.0) as (λ b. IsSomeAnd (cond b (Some e.1) (lookup t (take n es))) P → IsSomeAnd (cond b (Some e.1) (lookup t (take (suc n) es))) P) [
  | true ↦ λ k. k
  | false ↦ λ k. grow t P n es k
]) h

-- and among all
pub within : {K X : Type 0} (t : K → Bool) (P : X → Type 0) (n : ℕ) (es : List (K × X)) → IsSomeAnd (lookup t (take n es)) P → IsSomeAnd (lookup t es) P
within t P zero es h = absurd h
within t P (suc n) [] h = absurd h
within t P (suc n) (e ∷ es) h = (elim (t e.0) as (λ b. IsSomeAnd (cond b (Some e.1) (lookup t (take n es))) P → IsSomeAnd (cond b (Some e.1) (lookup t es)) P) [
  | true ↦ λ k. k
  | false ↦ λ k. within t P n es k
]) h

-- it stays there where another entry goes
removed : {K X : Type 0} (t u : K → Bool) (P : X → Type 0) → ((x : K) → u x ≡ true → t x ≡ false) → (n : ℕ) (es : List (K × X)) →
    IsSomeAnd (lookup t (take n es)) P → IsSomeAnd (lookup t (take n (remove_entry u es))) P
removed t u P apart zero es h = absurd h
removed t u P apart (suc n) [] h = absurd h
removed t u P apart (suc n) (e ∷ es) h = (elim (u e.0) as (λ b. u e.0 ≡ b → IsSomeAnd (lookup t (take (suc n) (cond b es (e ∷ remove_entry u es)))) P) [
  | true ↦ λ i. grow t P n es (subst (λ b. IsSomeAnd (cond b (Some e.1) (lookup t (take n es))) P) (apart e.0 i) h)
  | false ↦ λ i. (elim (t e.0) as (λ b. IsSomeAnd (cond b (Some e.1) (lookup t (take n es))) P → IsSomeAnd (cond b (Some e.1) (lookup t (take n (remove_entry u es)))) P) [
    | true ↦ λ k. k
    | false ↦ λ k. removed t u P apart n es k
  ]) h
]) refl

take_fewer : {X : Type 0} (n m : ℕ) (xs : List X) → n ≤ m → take n (take m xs) ≡ take n xs
take_fewer zero m xs h = refl
take_fewer (suc n) zero xs h = absurd (omega arith)
take_fewer (suc n) (suc m) [] h = refl
take_fewer (suc n) (suc m) (x ∷ xs) h = let less : n ≤ m = omega arith in ap (λ ys. x ∷ ys) (take_fewer n m xs less)

bound : (m : ℕ) (v : Growing) (o : Option Growing) → IsSomeAnd o (λ f. m ≤ f.level) → IfSome o (λ was. was.level ≤ v.level) → m ≤ v.level
bound m v None found less = absurd found
bound m v (Some f) found less = omega arith

-- the field of a cell is among the first n, filled at least to a level
abbrev pub IsAmong : ℕ → SharedFields → Cell → ℕ → Type 0
IsAmong n s q m = IsSomeAnd (lookup (is_cell q) (take n (stored s))) (λ f. m ≤ f.level)

-- where the cell is the one that was asked for, and where it is another one
put_first : (q k : Cell) (v : Growing) (m n : ℕ) (rest : List (Cell × Growing)) (key : Cell) → key ≡ k → (q ≡ k → m ≤ v.level) →
    (is_cell q key ≡ false → IsSomeAnd (lookup (is_cell q) (take n rest)) (λ f. m ≤ f.level)) →
    IsSomeAnd (lookup (is_cell q) (take (suc n) ((key, v) ∷ rest))) (λ f. m ≤ f.level)
put_first q k v m n rest key is same other = (elim (is_cell q key) as (λ b. is_cell q key ≡ b → IsSomeAnd (cond b (Some v) (lookup (is_cell q) (take n rest))) (λ f. m ≤ f.level)) [
  | true ↦ λ e. same (is_cell-same q key e ∙ is)
  | false ↦ λ e. other e
]) refl

apart_from : (q k key : Cell) → key ≡ k → is_cell q key ≡ false → (x : Cell) → is_cell k x ≡ true → is_cell q x ≡ false
apart_from q k key is not x e = subst (λ z. is_cell q z ≡ false) (is ∙ is_cell-same k x e) not

stays_put : (c : LruCache Cell Growing) (k q : Cell) (v : Growing) (m n : ℕ) → n < c.cap → IfSome (lookup (is_cell k) c.entries) (λ was. was.level ≤ v.level) →
    IsSomeAnd (lookup (is_cell q) (take n c.entries)) (λ f. m ≤ f.level) → (o : Option (Cell × Growing)) → lookup_entry (is_cell k) c.entries ≡ o →
    IsSomeAnd (lookup (is_cell q) (take (suc n) (put_entries is_cell c k v))) (λ f. m ≤ f.level)
stays_put c k q v m n lt less there o is =
    let same : q ≡ k → m ≤ v.level = λ e. bound m v (lookup (is_cell k) c.entries) (subst (λ z. IsSomeAnd (lookup (is_cell z) c.entries) (λ f. m ≤ f.level)) e (within (is_cell q) (λ f. m ≤ f.level) n c.entries there)) less in
    rw is (elim o as (λ o. lookup_entry (is_cell k) c.entries ≡ o → IsSomeAnd (lookup (is_cell q) (take (suc n) (option_map_or (λ e. (e.0, v) ∷ remove_entry (is_cell k) c.entries) o ((k, v) ∷ take (c.cap - 1) c.entries)))) (λ f. m ≤ f.level)) [
      | None ↦ λ none. put_first q k v m n (take (c.cap - 1) c.entries) k refl same (λ e. let few : n ≤ c.cap - 1 = omega arith in rw (take_fewer n (c.cap - 1) c.entries few) there)
      | Some e ↦ λ found.
          let key : e.0 ≡ k = sym (is_cell-same k e.0 (Contains-lookup_entry (is_cell k) c.entries e found).1) in
          put_first q k v m n (remove_entry (is_cell k) c.entries) e.0 key same
          (λ not. removed (is_cell q) (is_cell k) (λ f. m ≤ f.level) (apart_from q k e.0 key not) n c.entries there)
    ] is)

-- main: the field that was asked for is the first, and those among the first n are among the first n + 1
pub among_stays : (old new : SharedFields) (stop q : Cell) (level m n : ℕ) → HasAsked old new stop level → n < room old → IsAmong n old q m → IsAmong (n + 1) new q m
among_stays old new stop q level m n asked lt there =
    let next : suc n ≡ n + 1 = omega arith in
    subst (λ k. IsAmong k new q m) next (rw asked.first (stays_put old.fields stop q asked.field m n lt asked.no_less there _ refl))

first_put : (c : LruCache Cell Growing) (k : Cell) (v : Growing) (m n : ℕ) → m ≤ v.level → (o : Option (Cell × Growing)) → lookup_entry (is_cell k) c.entries ≡ o →
    IsSomeAnd (lookup (is_cell k) (take (suc n) (put_entries is_cell c k v))) (λ f. m ≤ f.level)
first_put c k v m n far o is =
    rw is (elim o as (λ o. lookup_entry (is_cell k) c.entries ≡ o → IsSomeAnd (lookup (is_cell k) (take (suc n) (option_map_or (λ e. (e.0, v) ∷ remove_entry (is_cell k) c.entries) o ((k, v) ∷ take (c.cap - 1) c.entries)))) (λ f. m ≤ f.level)) [
      | None ↦ λ none. rw (is_cell_equiv.refl k) far
      | Some e ↦ λ found. rw (Contains-lookup_entry (is_cell k) c.entries e found).1 far
    ] is)

pub among_asked : (old new : SharedFields) (stop : Cell) (level n : ℕ) → HasAsked old new stop level → IsAmong (n + 1) new stop level
among_asked old new stop level n asked =
    let next : suc n ≡ n + 1 = omega arith in
    subst (λ k. IsAmong k new stop level) next (rw asked.first (first_put old.fields stop asked.field level n asked.filled _ refl))
