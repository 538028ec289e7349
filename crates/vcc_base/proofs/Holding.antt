-- What changes of a list of entries change in its look-up.
use Rattle.std.proofs.Common.{◌≡◌, ◌≢◌, ℕ, zero, suc, ◌+◌, ◌<◌, Bool, true, false, cond, List, [], ◌∷◌, ◌++◌, length, get_or, Option, None, Some, IsNone, is_some, refl, ap, sym, subst, ◌∙◌, arith}
use Rattle.std.proofs.Math.ListN.{set}
use Rattle.std.specs.Str.{bytes_eq}
use Rattle.std.specs.String.{string_bytes}
use Rattle.std.specs.List.{position, position_from}
use Rattle.std.proofs.lemmas.Bool.{false_from_ne_true}
use Rattle.std.proofs.lemmas.Slice.Eq.{bytes_eq-Decides}
use Rattle.std.proofs.lemmas.List.Quantifiers.{position-Some}
use Rattle.std.proofs.lemmas.Iterator.Adapters.{position_from-zero}
use Rattle.vcc_base.specs.declared.memory.Entry.{Entry}
use Rattle.vcc_base.specs.Entries.{pairs, is_named}
use Rattle.vcc_base.specs.Maps.{Holds}
use Rattle.vcc_base.specs.Memory.{look_up}

-- another name is not this one
unnamed : (name q : List ℕ) → q ≢ name → bytes_eq name q ≡ false
unnamed name q other = false_from_ne_true _ (λ is. other (sym ((bytes_eq-Decides name q).0 is)))

-- a choice that came out as none
chosen_none : {A : Type 0} (b : Bool) (x : A) (o : Option A) → cond b (Some x) o ≡ None → (b ≡ false) × (o ≡ None)
chosen_none true x o is = absurd (cc)
chosen_none false x o is = (refl, is)

-- the place of the first entry of the name
pub record IsPlace (es : List Entry) (name : List ℕ) (i : ℕ) (d : Entry) : Type 0 where
  pub within : i < length es
  pub here : is_named name (get_or es i d) ≡ true
  pub before : (k : ℕ) → k < i → is_named name (get_or es k d) ≡ false

pub place_found : (es : List Entry) (name : List ℕ) (i : ℕ) (d : Entry) → position (is_named name) es ≡ Some i → IsPlace es name i d
place_found es name i d is =
    let all : (i < length es) × (is_named name (get_or es i d) ≡ true) × ((k : ℕ) → k < i → is_named name (get_or es k d) ≡ false) = position-Some (is_named name) es i d is in
    record { within = all.0; here = all.1; before = all.2 }

-- the place behind the first entry
place_behind : (e : Entry) (es : List Entry) (name : List ℕ) (i : ℕ) (d : Entry) → IsPlace (e ∷ es) name (suc i) d → IsPlace es name i d
place_behind e es name i d place =
    record { within = omega (arith, place.within); here = place.here; before = λ k lt. place.before (suc k) (omega arith) }

-- the look-up gives what the entry at the place holds
pub look_up_place : (es : List Entry) (name : List ℕ) (i : ℕ) (d : Entry) → IsPlace es name i d → look_up (pairs es) name ≡ Some (get_or es i d).bytes.items
look_up_place [] name i d place = absurd (omega (arith, place.within))
look_up_place (e ∷ es) name zero d place = ap (λ b. cond b (Some e.bytes.items) (look_up (pairs es) name)) place.here
look_up_place (e ∷ es) name (suc i) d place =
    ap (λ b. cond b (Some e.bytes.items) (look_up (pairs es) name)) (place.before zero (omega arith)) ∙ look_up_place es name i d (place_behind e es name i d place)

-- after a change at the place the look-up gives what the new entry holds
set_held : (es : List Entry) (name : List ℕ) (i : ℕ) (d e : Entry) → IsPlace es name i d → is_named name e ≡ true → look_up (pairs (set es i e)) name ≡ Some e.bytes.items
set_held [] name i d e place named = absurd (omega (arith, place.within))
set_held (e0 ∷ es) name zero d e place named = ap (λ b. cond b (Some e.bytes.items) (look_up (pairs es) name)) named
set_held (e0 ∷ es) name (suc i) d e place named =
    ap (λ b. cond b (Some e0.bytes.items) (look_up (pairs (set es i e)) name)) (place.before zero (omega arith)) ∙ set_held es name i d e (place_behind e0 es name i d place) named

-- and for other names what it gave
set_others : (es : List Entry) (i : ℕ) (d e : Entry) (q : List ℕ) → i < length es → is_named q (get_or es i d) ≡ false → is_named q e ≡ false → look_up (pairs (set es i e)) q ≡ look_up (pairs es) q
set_others [] i d e q within was is = absurd (omega (arith, within))
set_others (e0 ∷ es) zero d e q within was is =
    ap (λ b. cond b (Some e.bytes.items) (look_up (pairs es) q)) is ∙ sym (ap (λ b. cond b (Some e0.bytes.items) (look_up (pairs es) q)) was)
set_others (e0 ∷ es) (suc i) d e q within was is =
    ap (λ o. cond (is_named q e0) (Some e0.bytes.items) o) (set_others es i d e q (omega (arith, within)) was is)

-- a change at the place makes the name hold what the new entry holds
pub set_holds : (es : List Entry) (name : List ℕ) (i : ℕ) (d e : Entry) → IsPlace es name i d → string_bytes e.name ≡ string_bytes (get_or es i d).name → Holds (look_up (pairs es)) (look_up (pairs (set es i e))) name e.bytes.items
set_holds es name i d e place same =
    let was : string_bytes (get_or es i d).name ≡ name = (bytes_eq-Decides (string_bytes (get_or es i d).name) name).0 place.here in
    let is : string_bytes e.name ≡ name = same ∙ was in
    record {
      held = set_held es name i d e place ((bytes_eq-Decides (string_bytes e.name) name).1 is);
      others = λ q other. set_others es i d e q place.within
          (ap (λ n. bytes_eq n q) was ∙ unnamed name q other)
          (ap (λ n. bytes_eq n q) is ∙ unnamed name q other);
    }

-- no entry has the name
none_found : (es : List Entry) (name : List ℕ) (k : ℕ) → position_from (is_named name) k es ≡ None → look_up (pairs es) name ≡ None
none_found [] name k is = refl
none_found (e ∷ es) name k is =
    let both : (is_named name e ≡ false) × (position_from (is_named name) (k + 1) es ≡ None) = chosen_none (is_named name e) k (position_from (is_named name) (k + 1) es) is in
    ap (λ b. cond b (Some e.bytes.items) (look_up (pairs es) name)) both.0 ∙ none_found es name (k + 1) both.1

pub look_up_none : (es : List Entry) (name : List ℕ) → position (is_named name) es ≡ None → look_up (pairs es) name ≡ None
look_up_none es name is = none_found es name 0 (sym (position_from-zero (is_named name) es) ∙ is)

-- a new entry at the end holds its bytes, where the name was not held
push_held : (es : List Entry) (name : List ℕ) (e : Entry) → look_up (pairs es) name ≡ None → is_named name e ≡ true → look_up (pairs (es ++ e ∷ [])) name ≡ Some e.bytes.items
push_held [] name e none named = ap (λ b. cond b (Some e.bytes.items) None) named
push_held (e0 ∷ es) name e none named =
    let both : (is_named name e0 ≡ false) × (look_up (pairs es) name ≡ None) = chosen_none (is_named name e0) e0.bytes.items (look_up (pairs es) name) none in
    ap (λ b. cond b (Some e0.bytes.items) (look_up (pairs (es ++ e ∷ [])) name)) both.0 ∙ push_held es name e both.1 named

push_others : (es : List Entry) (e : Entry) (q : List ℕ) → is_named q e ≡ false → look_up (pairs (es ++ e ∷ [])) q ≡ look_up (pairs es) q
push_others [] e q is = ap (λ b. cond b (Some e.bytes.items) None) is
push_others (e0 ∷ es) e q is = ap (λ o. cond (is_named q e0) (Some e0.bytes.items) o) (push_others es e q is)

-- a new entry makes its name hold its bytes
pub push_holds : (es : List Entry) (name : List ℕ) (e : Entry) → position (is_named name) es ≡ None → string_bytes e.name ≡ name → Holds (look_up (pairs es)) (look_up (pairs (es ++ e ∷ []))) name e.bytes.items
push_holds es name e none is =
    record {
      held = push_held es name e (look_up_none es name none) ((bytes_eq-Decides (string_bytes e.name) name).1 is);
      others = λ q other. push_others es e q (ap (λ n. bytes_eq n q) is ∙ unnamed name q other);
    }

-- an entry that shows the same changes nothing
pub pairs_same : (es : List Entry) (i : ℕ) (d e : Entry) → string_bytes e.name ≡ string_bytes (get_or es i d).name → e.bytes.items ≡ (get_or es i d).bytes.items → pairs (set es i e) ≡ pairs es
pairs_same [] i d e name bytes = refl
pairs_same (e0 ∷ es) zero d e name bytes = ap (λ n. (n, e.bytes.items) ∷ pairs es) name ∙ ap (λ b. (string_bytes e0.name, b) ∷ pairs es) bytes
pairs_same (e0 ∷ es) (suc i) d e name bytes = ap (λ ps. (string_bytes e0.name, e0.bytes.items) ∷ ps) (pairs_same es i d e name bytes)

-- bytes put behind those of the entry at the place stand behind those of its name
pub append_holds : (es : List Entry) (name : List ℕ) (i : ℕ) (d e : Entry) (bytes piece : List ℕ) → position (is_named name) es ≡ Some i → d ≡ get_or es i d → string_bytes e.name ≡ string_bytes d.name → e.bytes.items ≡ d.bytes.items ++ piece → look_up (pairs es) name ≡ Some bytes → Holds (look_up (pairs es)) (look_up (pairs (set es i e))) name (bytes ++ piece)
append_holds es name i d e bytes piece found is same grown held =
    let place : IsPlace es name i d = place_found es name i d found in
    let was : Some (get_or es i d).bytes.items ≡ Some bytes = sym (look_up_place es name i d place) ∙ held in
    let same_bytes : (get_or es i d).bytes.items ≡ bytes = cc in
    let all : e.bytes.items ≡ bytes ++ piece = grown ∙ ap (λ xs. xs ++ piece) (ap (λ (x : Entry). x.bytes.items) is ∙ same_bytes) in
    let P : List ℕ → Type 0 = λ xs. Holds (look_up (pairs es)) (look_up (pairs (set es i e))) name xs in
    subst P all (set_holds es name i d e place (same ∙ ap (λ (x : Entry). string_bytes x.name) is))

-- the look-up finds nothing where there is no place
pub found_none : (es : List Entry) (name : List ℕ) → None ≡ position (is_named name) es → IsNone (look_up (pairs es) name)
found_none es name is = ap (λ o. is_some o) (look_up_none es name (sym is))

-- and what the entry at the place holds where there is one
pub found_bytes : (es : List Entry) (name : List ℕ) (i : ℕ) (d : Entry) → Some i ≡ position (is_named name) es → d ≡ get_or es i d → look_up (pairs es) name ≡ Some d.bytes.items
found_bytes es name i d is at = look_up_place es name i d (place_found es name i d (sym is)) ∙ sym (ap (λ (e : Entry). Some e.bytes.items) at)

-- where there is a place the name is held
pub found_some : (es : List Entry) (name : List ℕ) (i : ℕ) → Some i ≡ position (is_named name) es → IsNone (look_up (pairs es) name) → ⊥
found_some [] name i is none = absurd (cc is)
found_some (e ∷ es) name i is none =
    let held : look_up (pairs (e ∷ es)) name ≡ Some (get_or (e ∷ es) i e).bytes.items = look_up_place (e ∷ es) name i e (place_found (e ∷ es) name i e (sym is)) in
    let told : is_some (look_up (pairs (e ∷ es)) name) ≡ true = ap (λ o. is_some o) held in
    absurd (cc (told, none))
