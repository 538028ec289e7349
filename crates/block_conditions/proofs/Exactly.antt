-- The formula of a claim's end: what the claim lists is among the named objects.
use Rattle.std.proofs.Common.{◌≡◌, ℕ, suc, ◌+◌, Bool, true, false, not, ◌||◌, List, [], ◌∷◌, ◌++◌, map, drop, length, Some, slice_get, refl, ap, sym, ◌∙◌, subst, arith}
use Rattle.std.proofs.Math.Bool.{or-false}
use Rattle.std.specs.Prelude.{pos}
use Rattle.object_types.specs.declared.references.Ref.{Ref}
use Rattle.object_types.specs.declared.values.Value.{Value as Scalar}
use Rattle.object_types.specs.declared.values.Value.TheVariants.{Int, Ref as Refers}
use Rattle.object_types.specs.References.{same_ref, is_reference}
use Rattle.object_types.specs.Values.{says, same_value}
use Rattle.object_types.specs.Sets.{every, is_in}
use Rattle.object_types.specs.Heap.{Heap}
use Rattle.method.specs.declared.program.Program.{Program}
use Rattle.method.specs.WellFormed.{IsHeapOf}
use Rattle.term_meaning.specs.RawHeaps.{RawHeap, raw}
use Rattle.term_meaning.specs.Meaning.{Language, Quantified, Value, Env, BoolValue, HeapValue, PlainValue, BodyHolds, GivesBy, ref_value, argument, env_of}
use Rattle.terms.specs.declared.term.Kind.TheVariants as k
use Rattle.terms.specs.Formula.{Formula, Node}
use Rattle.axiom_instances.proofs.Kit.{HaveAll, none, more}
use Rattle.conditions.specs.Formulas.{row, true_formula, nat, eq, any_of, is_any, imp, get, lists, heap, reference, listed_column}
use Rattle.conditions.specs.Quantified.{listed_quantified, references_from}
use Rattle.condition_meaning.specs.Languages.{language_of}
use Rattle.condition_meaning.proofs.Listed.{stands_at}
use Rattle.condition_meaning.proofs.Quantifiers.{every_in, every_from}
use Rattle.condition_meaning.proofs.Environments.{Environment, Is, Has, HeapIs}
use Rattle.action_conditions.proofs.Words.{Refer, any, any_same, one_is}
use Rattle.action_conditions.proofs.AllMembers.{refs_from, behind_at, all_is}
use Rattle.action_conditions.proofs.Members as body
use Rattle.block_conditions.proofs.EndClaims.{ExactlyIs}

-- The body for one reference.
module _ (p : Program) (A : ℕ → List Value → Type 0) (I : Ref → RawHeap → RawHeap → Type 0) (e : Env) where
  abbrev Has_ : Formula → Scalar → Type 0
  Has_ f w = GivesBy p A I e f (PlainValue w)

  abbrev Is_ : Formula → Bool → Type 0
  Is_ f b = GivesBy p A I e f (BoolValue b)

  among : (o : Formula) (r : Ref) → Has_ o (Refers r) → (ws : List Formula) (qs : List Ref) → body.Refer p A I e ws qs → Is_ (any_of (is_any o ws)) (any (map (same_ref r) qs))
  among o r ho [] [] a = body.is_not p A I e true_formula true ([], refl, refl)
  among o r ho [] (q ∷ qs) a = absurd a
  among o r ho (w ∷ ws) [] a = absurd a
  among o r ho (w ∷ []) (q ∷ []) a = body.is_so p A I e (eq o w) (same_ref r q) (same_ref r q || false) (sym (or-false (same_ref r q))) (body.is_eq p A I e o w (Refers r) (Refers q) ho a.0)
  among o r ho (w ∷ []) (q ∷ s ∷ qs) a = absurd a.1
  among o r ho (w ∷ x ∷ ws) (q ∷ []) a = absurd a.1
  among o r ho (w ∷ x ∷ ws) (q ∷ s ∷ qs) a = body.is_or p A I e (eq o w) (any_of (is_any o (x ∷ ws))) (same_ref r q) (any (map (same_ref r) (s ∷ qs))) (body.is_eq p A I e o w (Refers r) (Refers q) ho a.0) (among o r ho (x ∷ ws) (s ∷ qs) a.1)

  listed_is : (x c w : Formula) (ws : List Formula) (h : Heap) (r q : Ref) (qs : List Ref) → GivesBy p A I e x (HeapValue (raw p h)) → Has_ c (Refers r) → Has_ w (Refers q) → body.Refer p A I e ws qs
      → GivesBy p A I e (imp (lists x c w) (any_of (is_any w ws))) (BoolValue (not (is_in q (h.get r).listed) || is_in q qs))
  listed_is x c w ws h r q qs hx hc hw a =
      body.is_imp p A I e (lists x c w) (any_of (is_any w ws)) (is_in q (h.get r).listed) (is_in q qs)
      (body.is_so p A I e (lists x c w) (same_value (says (is_in q (h.get r).listed)) (Int (pos 1))) (is_in q (h.get r).listed) (one_is (is_in q (h.get r).listed))
      (body.is_eq p A I e (get listed_column x (c ∷ w ∷ [])) (nat 1) (says (is_in q (h.get r).listed)) (Int (pos 1)) (body.third p A I e k.Get (pos 4) x c w (HeapValue (raw p h)) (ref_value r) (ref_value q) _ hx hc hw refl) (body.has_nat p A I e 1)))
      (body.is_so p A I e (any_of (is_any w ws)) (any (map (same_ref q) qs)) (is_in q qs) (any_same q qs) (among w q hw ws qs a))

-- In an environment.

rows_have : (l : Language) (t : Ref) (e : Environment l t) (os : List Formula) (rs : List Ref) → Refer l t e os rs → HaveAll l e.env (row os) (map ref_value rs)
rows_have l t e [] [] a = none
rows_have l t e [] (r ∷ rs) a = absurd a
rows_have l t e (o ∷ os) [] a = absurd a
rows_have l t e (o ∷ os) (r ∷ rs) a = more a.0 (rows_have l t e os rs a.1)

same_many : (l : Language) (t : Ref) (e : Environment l t) (os : List Formula) (rs : List Ref) → Refer l t e os rs → length os ≡ length rs
same_many l t e [] [] a = refl
same_many l t e [] (r ∷ rs) a = absurd a
same_many l t e (o ∷ os) [] a = absurd a
same_many l t e (o ∷ os) (r ∷ rs) a = ap suc (same_many l t e os rs a.1)

module _ (l : Language) (t : Ref) (e : Environment l t) (n : ℕ) (x c : Formula) (h : Heap) (r : Ref) (os : List Formula) (rs : List Ref) (hx : HeapIs l t e x h) (proper : IsHeapOf l.program h) (hc : Has l t e c (Refers r)) (ho : Refer l t e os rs) where
  abbrev set : List Ref
  set = (h.get r).listed

  abbrev test : Ref → Bool
  test q = not (is_in q set) || is_in q rs

  forth : every (λ o. is_in o rs) set ≡ true → (q : Ref) → is_reference q ≡ true → test q ≡ true
  forth h q named = by (is_in q set) refl
    where
      by : (b : Bool) → is_in q set ≡ b → (not b || is_in q rs) ≡ true
      by true i = every_in (λ o. is_in o rs) q set h i
      by false i = refl

  back : ((q : Ref) → is_reference q ≡ true → test q ≡ true) → every (λ o. is_in o rs) set ≡ true
  back h = every_from (λ o. is_in o rs) set (λ q m. by q (is_in q set) m (h q (every_in is_reference q set (proper.listed_are r) m)))
    where
      by : (q : Ref) (b : Bool) → b ≡ true → (not b || is_in q rs) ≡ true → is_in q rs ≡ true
      by q true i k = k
      by q false i k = absurd (cc)

  vals : List Value
  vals = HeapValue (raw l.program h) ∷ ref_value r ∷ map ref_value rs

  pub exactly_is : (z : Quantified) → slice_get l.quantified n ≡ Some z → z.body ≡ (listed_quantified n (length rs)).body → Is l t e (Node k.All (pos n) (row (x ∷ c ∷ os))) (every (λ o. is_in o rs) set)
  unfolding vals
  exactly_is z is body_is =
      all_is l t e n z is (x ∷ c ∷ os) vals (more hx (more hc (rows_have l t e os rs ho))) (every (λ o. is_in o rs) set) test
      (λ q. subst (λ f. GivesBy l.program (BodyHolds l.program e.env.me (suc n) (drop (suc n) l.quantified)) (λ o h k. Unit {0}) (env_of e.env.me (vals ++ ref_value q ∷ [])) f (BoolValue (test q))) (sym body_is) (one_body q))
      forth back
    where
      shift : (q : Ref) (j : ℕ) → argument (vals ++ ref_value q ∷ []) (2 + j) ≡ argument (map ref_value rs ++ ref_value q ∷ []) j
      shift q j = let y : 2 + j ≡ suc (suc j) = omega arith in ap (argument (vals ++ ref_value q ∷ [])) y

      bound_at : (q : Ref) → ref_value q ≡ argument (vals ++ ref_value q ∷ []) (2 + length rs)
      bound_at q = let y : length rs ≡ length rs + 0 = omega arith in sym (shift q (length rs) ∙ ap (argument (map ref_value rs ++ ref_value q ∷ [])) y ∙ behind_at rs (ref_value q ∷ []) 0)

      one_body : (q : Ref) → GivesBy l.program (BodyHolds l.program e.env.me (suc n) (drop (suc n) l.quantified)) (λ o h k. Unit {0}) (env_of e.env.me (vals ++ ref_value q ∷ [])) (listed_quantified n (length rs)).body (BoolValue (test q))
      one_body q =
          let A = BodyHolds l.program e.env.me (suc n) (drop (suc n) l.quantified) in
          let refs = refs_from l.program A (λ o h k. Unit {0}) e.env.me (vals ++ ref_value q ∷ []) 2 rs (ref_value q ∷ []) (shift q) in
          listed_is l.program A (λ o h k. Unit {0}) (env_of e.env.me (vals ++ ref_value q ∷ []))
          (heap 0) (reference 1) (reference (2 + length rs)) (references_from 2 (length rs)) h r q rs
          ([], refl, refl) ([], refl, refl) ([], refl, bound_at q) refs

pub exactly_true : (p : Program) → (t : Ref) → ExactlyIs p t
exactly_true p t e q x h c r os rs numbered hx proper hc ho =
    let same = same_many (language_of p) t e os rs ho in
    let z = stands_at p (listed_quantified q (length os)) numbered in
    exactly_is (language_of p) t e q x c h r os rs hx proper hc ho z.0 z.1 (z.2 ∙ ap (λ i. (listed_quantified q i).body) same)
