-- Maps and sets of names after a call.
use Rattle.std.proofs.Common.{◌≡◌, ℕ, Bool, true, false, cond, List, ◌||◌, Option, None, Some, is_some, IsSome, Result, Ok, Err, IsOk, OnOk, OnErr, if◌then◌else◌, Bor, nat_eq, refl, sym, ap, subst, ◌∙◌, true≢false}
use Rattle.std.specs.Cmp.Lexicographic.{pointwise}
use Rattle.std.specs.Option.{option_or}
use Rattle.std.specs.Str.{bytes_eq}
use Rattle.std.proofs.lemmas.Slice.Eq.{bytes_eq-Decides}
use Rattle.indexmap.specs.IndexMap as maps
use Rattle.indexmap.specs.IndexMap.{IndexMap}
use Rattle.indexmap.specs.IndexSet as sets
use Rattle.indexmap.specs.IndexSet.{IndexSet}
use Rattle.typing_symbols.specs.Lookup.{at, contains, place_if}

or_cond : (a b : Bool) → cond a true b ≡ (a || b)
or_cond true b = refl
or_cond false b = refl

-- a name that was put in a set
pub grown : {S : Type 0} (key : Bor (List ℕ)) (name : List ℕ) (s n : IndexSet (Bor (List ℕ)) S) → key.now ≡ name
    → sets.Updates (λ x y. pointwise nat_eq x.now y.now) s n key true
    → (y : List ℕ) → contains n y ≡ (bytes_eq name y || contains s y)
grown key name s n same updates y = updates.0 (record { ref_ptr = (0, 0); now = y }) ∙ or_cond (bytes_eq key.now y) (contains s y) ∙ ap (λ (b : List ℕ). bytes_eq b y || contains s y) same

-- what a map has at each name, after one was written
pub written : {X S : Type 0} (key : Bor (List ℕ)) (name : List ℕ) (m n : IndexMap (Bor (List ℕ)) X S) (w : Option X) → key.now ≡ name
    → maps.Updates (λ x y. pointwise nat_eq x.now y.now) m n key w
    → (y : List ℕ) → at n y ≡ cond (bytes_eq name y) w (at m y)
written key name m n w same updates y = updates.0 (record { ref_ptr = (0, 0); now = y }) ∙ ap (λ (b : List ℕ). cond (bytes_eq b y) w (at m y)) same

-- a name that has a place keeps it
pub kept : (f : List ℕ → Option ℕ) (name : List ℕ) (place : ℕ) → is_some (f name) ≡ true
    → (y : List ℕ) → f y ≡ option_or (f y) (place_if (bytes_eq name y) place)
kept f name place there y = by (f y) (bytes_eq name y) (λ e. subst (λ n. is_some (f n) ≡ true) ((bytes_eq-Decides name y).0 e) there)
  where
    by : (o : Option ℕ) (b : Bool) → (b ≡ true → is_some o ≡ true) → o ≡ option_or o (place_if b place)
    by (Some v) b h = refl
    by None true h = absurd (true≢false (sym (h refl)))
    by None false h = refl

-- a name that has none gets this one
pub placed : {S : Type 0} (key : Bor (List ℕ)) (name : List ℕ) (m n : IndexMap (Bor (List ℕ)) ℕ S) (place : ℕ) → key.now ≡ name
    → false ≡ is_some (at m key.now) → maps.Updates (λ x y. pointwise nat_eq x.now y.now) m n key (Some place)
    → (y : List ℕ) → at n y ≡ option_or (at m y) (place_if (bytes_eq name y) place)
placed key name m n place same absent updates y =
    written key name m n (Some place) same updates y ∙ by (at m y) (bytes_eq name y) (λ e. subst (λ (b : List ℕ). is_some (at m b) ≡ false) (same ∙ (bytes_eq-Decides name y).0 e) (sym absent))
  where
    by : (o : Option ℕ) (b : Bool) → (b ≡ true → is_some o ≡ false) → cond b (Some place) o ≡ option_or o (place_if b place)
    by (Some v) true h = absurd (true≢false (h refl))
    by (Some v) false h = refl
    by None b h = refl

-- a name that is there is written without taking memory
pub there : {S T E : Type 0} (key : Bor (List ℕ)) (name : List ℕ) (m : IndexMap (Bor (List ℕ)) ℕ S) (r : Result T E) → key.now ≡ name
    → IsSome (at m name) → OnErr r (at m key.now ≡ None) → IsOk r
there key name m (Ok x) same some absent = refl
there key name m (Err x) same some absent = let h : is_some (at m name) ≡ false = ap (λ b. is_some (at m b)) (sym same) ∙ ap is_some absent in absurd (true≢false (sym some ∙ h))

on_ok : {T E : Type 0} (P : Type 0) (r : Result T E) → IsOk r → OnOk r P → P
on_ok P (Ok x) h p = p
on_ok P (Err x) h p = absurd (true≢false (sym h))

-- a name that stands for what was hidden
pub shown : {S T E : Type 0} (key : Bor (List ℕ)) (name : List ℕ) (m n : IndexMap (Bor (List ℕ)) ℕ S) (r : Result T E) (place : ℕ) (hidden : Option ℕ) → key.now ≡ name
    → IsSome (at m name) → OnErr r (at m key.now ≡ None) → OnOk r (maps.Updates (λ x y. pointwise nat_eq x.now y.now) m n key (Some place)) → hidden ≡ Some place
    → (y : List ℕ) → at n y ≡ (if bytes_eq name y then hidden else at m y)
shown key name m n r place hidden same some absent updates is y =
    written key name m n (Some place) same (on_ok _ r (there key name m r same some absent) updates) y ∙ ap (λ w. if bytes_eq name y then w else at m y) (sym is)

-- a name that stands for nothing any more
pub removed : {S : Type 0} (key : Bor (List ℕ)) (name : List ℕ) (m n : IndexMap (Bor (List ℕ)) ℕ S) (hidden : Option ℕ) → key.now ≡ name
    → maps.Updates (λ x y. pointwise nat_eq x.now y.now) m n key None → hidden ≡ None
    → (y : List ℕ) → at n y ≡ (if bytes_eq name y then hidden else at m y)
removed key name m n hidden same updates is y = written key name m n None same updates y ∙ ap (λ w. if bytes_eq name y then w else at m y) (sym is)
