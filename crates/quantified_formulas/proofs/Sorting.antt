-- The sorts of a scene of constants are those of the scene's form.
use Rattle.std.specs.Prelude.{◌≡◌, ℕ, zero, suc, ◌+◌, Bool, List, [], ◌∷◌, ◌++◌, map, length, replicate, slice_index_or}
use Rattle.std.proofs.Common.{refl, ap, ap₂, sym, ◌∙◌}
use Rattle.std.proofs.lemmas.List.{map-append}
use Rattle.terms.specs.declared.term.Term.{Term}
use Rattle.terms.specs.declared.sort.Sort.{Sort}
use Rattle.terms.specs.declared.sort.Sort.TheVariants as s
use Rattle.terms.specs.Formula.{Formula}
use Rattle.conditions.specs.Formulas.{null}
use Rattle.conditions.specs.Symbolic as symbolic
use Rattle.conditions.specs.Annotations.{Scene, parts, formal_scene, constant_like, constants_like, references_like}
use Rattle.conditions.specs.Quantified.{sort_of_constant}
use Rattle.condition_formulas.specs.declared.symbolic.Symbolic.{Symbolic}
use Rattle.condition_formulas.specs.declared.symbolic.Symbolic.TheVariants as code
use Rattle.condition_formulas.specs.Standing.{StandAll, Each}
use Rattle.condition_formulas.specs.Symbolics.{IsSymbolic, Alike, AreSymbolic, EachSymbolic}
use Rattle.annotation_scenes.specs.Scenes.{AreWords}
use Rattle.quantified_formulas.specs.Sorts.{value_sort, word_sorts, sort_at}

alike_sort : (ts : List Term) (n : ℕ) (v : Symbolic) (w : symbolic.Symbolic) → Alike ts v w → sort_of_constant (symbolic.term (constant_like n w)) ≡ value_sort v
alike_sort ts n (code.Truth id) (symbolic.Truth f) h = refl
alike_sort ts n (code.Truth id) (symbolic.Number f) h = absurd h
alike_sort ts n (code.Truth id) (symbolic.Reference f) h = absurd h
alike_sort ts n (code.Number id) (symbolic.Truth f) h = absurd h
alike_sort ts n (code.Number id) (symbolic.Number f) h = refl
alike_sort ts n (code.Number id) (symbolic.Reference f) h = absurd h
alike_sort ts n (code.Reference id) (symbolic.Truth f) h = absurd h
alike_sort ts n (code.Reference id) (symbolic.Number f) h = absurd h
alike_sort ts n (code.Reference id) (symbolic.Reference f) h = refl

each_sort : (ts : List Term) (n : ℕ) (vs : List Symbolic) (ws : List symbolic.Symbolic) → EachSymbolic ts vs ws → map sort_of_constant (map symbolic.term (constants_like n ws)) ≡ map value_sort vs
each_sort ts n [] [] h = refl
each_sort ts n [] (w ∷ ws) h = absurd h
each_sort ts n (v ∷ vs) [] h = absurd h
each_sort ts n (v ∷ vs) (w ∷ ws) h = ap₂ (λ (a : Sort) (as' : List Sort). a ∷ as') (alike_sort ts n v w h.0.is) (each_sort ts (n + 1) vs ws h.1)

bound_sorts : (ts : List Term) (n : ℕ) (ids : List ℕ) (fs : List Formula) → Each ts ids fs → map sort_of_constant (references_like n fs) ≡ replicate (length ids) s.Ref
bound_sorts ts n [] [] h = refl
bound_sorts ts n [] (f ∷ fs) h = absurd h
bound_sorts ts n (id ∷ ids) [] h = absurd h
bound_sorts ts n (id ∷ ids) (f ∷ fs) h = ap (λ (as' : List Sort). s.Ref ∷ as') (bound_sorts ts (n + 1) ids fs h.1)

pub sorts_are : {ts : List Term} {b a m t u : ℕ} {p : Bool} {ls es : List Symbolic} {r : Symbolic} {ds : List ℕ} {x : Scene} → AreWords ts b a m t u p ls es r ds x → map sort_of_constant (parts (formal_scene x)) ≡ word_sorts r ls es ds
sorts_are {ts} {ls = ls} {es} {r} {ds} {x} h =
    let locals = each_sort ts 5 ls x.locals h.locals_are.each in
    let entry = each_sort ts (5 + length x.locals) es x.entry h.entry_is.each in
    let bound = bound_sorts ts (5 + length x.locals + length x.entry) ds x.bound h.bound_are.each in
    let result = alike_sort ts 4 r x.result h.result_is.is in
    let y = formal_scene x in
    let front = y.after ∷ y.before ∷ y.me ∷ y.this ∷ symbolic.term y.result ∷ map symbolic.term y.locals in
    map-append sort_of_constant (front ++ map symbolic.term y.entry) y.bound
    ∙ ap (λ (as' : List Sort). as' ++ map sort_of_constant y.bound) (map-append sort_of_constant front (map symbolic.term y.entry))
    ∙ ap (λ (as' : List Sort). (map sort_of_constant front ++ map sort_of_constant (map symbolic.term y.entry)) ++ as') bound
    ∙ ap (λ (as' : List Sort). (map sort_of_constant front ++ as') ++ replicate (length ds) s.Ref) entry
    ∙ ap (λ (as' : List Sort). ((s.Heap ∷ s.Heap ∷ s.Ref ∷ s.Ref ∷ sort_of_constant (symbolic.term y.result) ∷ as') ++ map value_sort es) ++ replicate (length ds) s.Ref) locals
    ∙ ap (λ (a : Sort). ((s.Heap ∷ s.Heap ∷ s.Ref ∷ s.Ref ∷ a ∷ map value_sort ls) ++ map value_sort es) ++ replicate (length ds) s.Ref) result

index_mapped : (fs : List Formula) (n : ℕ) → sort_at (map sort_of_constant fs) n ≡ sort_of_constant (slice_index_or fs n null)
index_mapped [] n = refl
index_mapped (f ∷ fs) zero = refl
index_mapped (f ∷ fs) (suc n) = index_mapped fs n

pub at_places : (fs : List Formula) (ns : List ℕ) → map (sort_at (map sort_of_constant fs)) ns ≡ map (λ n. sort_of_constant (slice_index_or fs n null)) ns
at_places fs [] = refl
at_places fs (n ∷ ns) = ap₂ (λ (a : Sort) (as' : List Sort). a ∷ as') (index_mapped fs n) (at_places fs ns)

-- the sorts at places, by the code's list
pub place_sorts : {ts : List Term} {b a m t u : ℕ} {p : Bool} {ls es : List Symbolic} {r : Symbolic} {ds : List ℕ} {x : Scene} (ns : List ℕ) → AreWords ts b a m t u p ls es r ds x → map (sort_at (word_sorts r ls es ds)) ns ≡ map (λ n. sort_of_constant (slice_index_or (parts (formal_scene x)) n null)) ns
place_sorts {x = x} ns h = ap (λ (as' : List Sort). map (sort_at as') ns) (sym (sorts_are h)) ∙ at_places (parts (formal_scene x)) ns
