-- Lists of references in which each stands once, and the formulas that say so.
use Rattle.std.proofs.Common.{◌≡◌, Bool, true, false, not, ◌&&◌, ◌||◌, List, [], ◌∷◌, ◌++◌, map, refl, ap, ap₂, sym, ◌∙◌}
use Rattle.std.proofs.Math.Bool.{or-false}
use Rattle.object_types.specs.declared.references.Ref.{Ref}
use Rattle.object_types.specs.declared.values.Value.TheVariants.{Ref as Refers}
use Rattle.object_types.specs.References.{same_ref}
use Rattle.object_types.specs.Sets.{every, is_in, all_distinct}
use Rattle.method.proofs.Global.{same_ref_self, same_ref_is}
use Rattle.machine_laws.proofs.Heaps.{in_more, in_none, or_regroup}
use Rattle.terms.specs.Formula.{Formula}
use Rattle.term_meaning.specs.Meaning.{Language}
use Rattle.conditions.specs.Formulas.{eq}
use Rattle.conditions.specs.Actions.{distinct_from}
use Rattle.conditions.proofs.PathTests.{AllAre}
use Rattle.condition_meaning.proofs.Environments.{Environment, Is, Has, is_not, is_eq}
use Rattle.action_conditions.proofs.Words.{Refer, all}

-- Truth values.

pub all_both : (bs cs : List Bool) → all (bs ++ cs) ≡ all bs && all cs
all_both [] cs = refl
all_both (true ∷ bs) cs = all_both bs cs
all_both (false ∷ bs) cs = refl

pub all_every : {X : Type 0} (g : X → Bool) (xs : List X) → all (map g xs) ≡ every g xs
all_every g [] = refl
all_every g (x ∷ xs) = ap (λ b. g x && b) (all_every g xs)

-- Each object is none of the earlier, and none of the later.

same_turned : (a b : Ref) → same_ref a b ≡ same_ref b a
same_turned a b = by (same_ref a b) (same_ref b a) refl refl
  where
    by : (x y : Bool) → same_ref a b ≡ x → same_ref b a ≡ y → x ≡ y
    by true y e g = sym (ap (λ (r : Ref). same_ref b r) (same_ref_is a b e) ∙ same_ref_self b) ∙ g
    by false true e g = sym e ∙ ap (λ (r : Ref). same_ref a r) (same_ref_is b a g) ∙ same_ref_self a
    by false false e g = refl

pub in_behind : (q : Ref) (rs : List Ref) (r : Ref) → is_in q (rs ++ r ∷ []) ≡ is_in q rs || same_ref q r
in_behind q [] r = in_more q r [] ∙ ap (λ b. same_ref q r || b) (in_none q) ∙ or-false (same_ref q r) ∙ ap (λ b. b || same_ref q r) (sym (in_none q))
in_behind q (x ∷ rs) r = in_more q x (rs ++ r ∷ []) ∙ ap (λ b. same_ref q x || b) (in_behind q rs r) ∙ or_regroup (same_ref q x) (is_in q rs) (same_ref q r) ∙ ap (λ b. b || same_ref q r) (sym (in_more q x rs))

-- whether each object differs from those before it
abbrev pub distincts : List Ref → List Ref → List Bool
distincts qs [] = []
distincts qs (o ∷ os) = map (λ q. not (same_ref o q)) qs ++ distincts (qs ++ o ∷ []) os

pub none_of : (r : Ref) (rs : List Ref) → all (map (λ q. not (same_ref r q)) rs) ≡ not (is_in r rs)
none_of r [] = sym (ap not (in_none r))
none_of r (q ∷ rs) = ap (λ b. not (same_ref r q) && b) (none_of r rs) ∙ by (same_ref r q) (is_in r rs) ∙ sym (ap not (in_more r q rs))
  where
    by : (b c : Bool) → not b && not c ≡ not (b || c)
    by true c = refl
    by false c = refl

none_behind : (qs : List Ref) (o : Ref) (os : List Ref) → every (λ x. not (is_in x (qs ++ o ∷ []))) os ≡ every (λ x. not (is_in x qs)) os && not (is_in o os)
none_behind qs o [] = sym (ap not (in_none o))
none_behind qs o (x ∷ xs) =
    ap₂ (λ a b. not a && b) (in_behind x qs o ∙ ap (λ b. is_in x qs || b) (same_turned x o)) (none_behind qs o xs)
    ∙ by (is_in x qs) (same_ref o x) (every (λ x. not (is_in x qs)) xs) (is_in o xs) ∙ ap (λ b. (not (is_in x qs) && every (λ x. not (is_in x qs)) xs) && not b) (sym (in_more o x xs))
  where
    by : (a b e f : Bool) → not (a || b) && (e && not f) ≡ (not a && e) && not (b || f)
    by true b e f = refl
    by false true true f = refl
    by false true false f = refl
    by false false e f = refl

distincts_are : (qs rs : List Ref) → all (distincts qs rs) ≡ every (λ x. not (is_in x qs)) rs && all_distinct rs
distincts_are qs [] = refl
distincts_are qs (o ∷ os) =
    all_both (map (λ q. not (same_ref o q)) qs) (distincts (qs ++ o ∷ []) os) ∙ ap₂ (λ a b. a && b) (none_of o qs) (distincts_are (qs ++ o ∷ []) os ∙ ap (λ b. b && all_distinct os) (none_behind qs o os))
    ∙ by (not (is_in o qs)) (every (λ x. not (is_in x qs)) os) (not (is_in o os)) (all_distinct os)
  where
    by : (a e f d : Bool) → a && ((e && f) && d) ≡ (a && e) && (f && d)
    by true true f d = refl
    by true false f d = refl
    by false e f d = refl

pub all_apart : (rs : List Ref) → all (distincts [] rs) ≡ all_distinct rs
all_apart rs = distincts_are [] rs ∙ ap (λ b. b && all_distinct rs) (trivial rs)
  where
    trivial : (rs : List Ref) → every (λ x. not (is_in x [])) rs ≡ true
    trivial [] = refl
    trivial (r ∷ rs) = ap₂ (λ a b. not a && b) (in_none r) (trivial rs)

-- In an environment.
module _ (l : Language) (t : Ref) (e : Environment l t) where
  pub not_same_are : (o : Formula) (r : Ref) → Has l t e o (Refers r) → (ws : List Formula) (rs : List Ref) → Refer l t e ws rs → AllAre (Is l t e) (distinct_from o ws) (map (λ q. not (same_ref r q)) rs)
  not_same_are o r h [] [] k = tt
  not_same_are o r h [] (q ∷ rs) k = absurd k
  not_same_are o r h (w ∷ ws) [] k = absurd k
  not_same_are o r h (w ∷ ws) (q ∷ rs) k = (is_not l t e (eq o w) (same_ref r q) (is_eq l t e o w (Refers r) (Refers q) h k.0), not_same_are o r h ws rs k.1)

  pub one_behind : (ws : List Formula) (rs : List Ref) (o : Formula) (r : Ref) → Refer l t e ws rs → Has l t e o (Refers r) → Refer l t e (ws ++ o ∷ []) (rs ++ r ∷ [])
  one_behind [] [] o r k h = (h, tt)
  one_behind [] (q ∷ rs) o r k h = absurd k
  one_behind (w ∷ ws) [] o r k h = absurd k
  one_behind (w ∷ ws) (q ∷ rs) o r k h = (k.0, one_behind ws rs o r k.1 h)
