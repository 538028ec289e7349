-- That each member of a wrapped object is wrapped and writable, as one term.
use Rattle.std.proofs.Common.{◌≡◌, ℕ, suc, ◌+◌, Bool, true, false, not, ◌&&◌, ◌||◌, List, [], ◌∷◌, ◌++◌, map, drop, length, Some, slice_get, pos, refl, sym, ap, ◌∙◌, subst, arith}
use Rattle.std.proofs.lemmas.List.{append_assoc}
use Rattle.object_types.specs.declared.references.Ref.{Ref}
use Rattle.object_types.specs.declared.values.Value.TheVariants.{Ref as Refers}
use Rattle.object_types.specs.References.{is_reference}
use Rattle.object_types.specs.Sets.{is_in, every}
use Rattle.object_types.specs.Heap.{Heap, wrapped, writable}
use Rattle.terms.specs.declared.term.Kind.TheVariants as k
use Rattle.terms.specs.Formula.{Formula, Node}
use Rattle.term_meaning.specs.RawHeaps.{RawHeap, raw}
use Rattle.term_meaning.specs.Meaning.{Value, BoolValue, HeapValue, Language, Quantified, BodyHolds, GivesBy, AllHolds, truth, ref_value, argument, env_of}
use Rattle.term_meaning.proofs.Filled.{this_one}
use Rattle.term_meaning.proofs.Values.{gives_one}
use Rattle.axiom_instances.proofs.Kit.{HaveAll, one, more, node_has}
use Rattle.conditions.specs.Formulas.{row, me, heap, reference}
use Rattle.conditions.specs.Quantified.{references_from, members_quantified}
use Rattle.conditions.specs.Code.{Spot}
use Rattle.condition_meaning.proofs.Environments.{Environment, Has, Is, HeapIs, has_me}
use Rattle.condition_meaning.proofs.Quantifiers.{every_in, every_from}
use Rattle.action_conditions.proofs.Words.{Refer}
use Rattle.action_conditions.proofs.Members as body

-- Constants of arguments.

-- references that stand one after the other in a list of values
pub refs_from : (p : _) (A : ℕ → List Value → Type 0) (I : Ref → RawHeap → RawHeap → Type 0) (t : Ref) (xs : List Value) (i : ℕ) (rs : List Ref) (behind : List Value) → ((j : ℕ) → argument xs (i + j) ≡ argument (map ref_value rs ++ behind) j) → body.Refer p A I (env_of t xs) (references_from i (length rs)) rs
refs_from p A I t xs i [] behind h = tt
refs_from p A I t xs i (r ∷ rs) behind h =
    let z : i ≡ i + 0 = omega arith in
    (([], refl, sym (ap (argument xs) z ∙ h 0)), refs_from p A I t xs (i + 1) rs behind (λ j. let y : i + 1 + j ≡ i + suc j = omega arith in ap (argument xs) y ∙ h (suc j)))

-- what stands behind them
pub behind_at : (rs : List Ref) (behind : List Value) (n : ℕ) → argument (map ref_value rs ++ behind) (length rs + n) ≡ argument behind n
behind_at [] behind n = let z : 0 + n ≡ n = omega arith in ap (argument behind) z
behind_at (r ∷ rs) behind n = let z : suc (length rs) + n ≡ suc (length rs + n) = omega arith in ap (argument (ref_value r ∷ map ref_value rs ++ behind)) z ∙ behind_at rs behind n

module _ (l : Language) (t : Ref) (e : Environment l t) where
  -- the writes list and the entry heap, as arguments
  writes_have : (ws : List Formula) (rs : List Ref) (z : Formula) (h : Heap) → Refer l t e ws rs → HeapIs l t e z h → HaveAll l e.env (row (ws ++ z ∷ [])) (map ref_value rs ++ HeapValue (raw l.program h) ∷ [])
  writes_have [] [] z h a k = one k
  writes_have [] (r ∷ rs) z h a k = absurd a
  writes_have (w ∷ ws) [] z h a k = absurd a
  writes_have (w ∷ ws) (r ∷ rs) z h a k = more a.0 (writes_have ws rs z h a.1 k)

  -- A quantified formula at arguments, where its body has a truth value for each reference.
  module _ (n : ℕ) (z : Quantified) (is : slice_get l.quantified n ≡ Some z) (fs : List Formula) (vs : List Value) (have : HaveAll l e.env (row fs) vs) (b : Bool) (test : Ref → Bool)
      (each : (q : Ref) → GivesBy l.program (BodyHolds l.program e.env.me (suc n) (drop (suc n) l.quantified)) (λ o h k. Unit {0}) (env_of e.env.me (vs ++ ref_value q ∷ [])) z.body (BoolValue (test q)))
      (forth : b ≡ true → (q : Ref) → is_reference q ≡ true → test q ≡ true) (back : ((q : Ref) → is_reference q ≡ true → test q ≡ true) → b ≡ true)
    where
      abbrev later : ℕ → List Value → Type 0
      later = BodyHolds l.program e.env.me (suc n) (drop (suc n) l.quantified)

      holds_there : (q : Ref) → test q ≡ true → AllHolds l e.env.me n (vs ++ ref_value q ∷ [])
      holds_there q h =
          (this_one l.program e.env.me l.quantified n 0 n z (omega arith) is (vs ++ ref_value q ∷ [])).1
          (λ y g. ap truth (gives_one l.program later (λ o h k. Unit {0}) (env_of e.env.me (vs ++ ref_value q ∷ [])) z.body y (BoolValue (test q)) g (each q)) ∙ h)

      tested_there : (q : Ref) → AllHolds l e.env.me n (vs ++ ref_value q ∷ []) → test q ≡ true
      tested_there q h = (this_one l.program e.env.me l.quantified n 0 n z (omega arith) is (vs ++ ref_value q ∷ [])).0 h (BoolValue (test q)) (each q)

      pub all_is : Is l t e (Node k.All (pos n) (row fs)) b
      all_is = node_has have (record { is_bool = refl; yes = λ h q named. holds_there q (forth h q named); holds = λ h. back (λ q named. tested_there q (h q named)) })

  -- The members of a wrap.
  module _ (a : Spot) (entry : Heap) (rs : List Ref) (hentry : HeapIs l t e a.entry entry) (hwrites : Refer l t e a.writes rs) (n : ℕ) (set o h : Formula) (hs hh : Heap) (r : Ref) (hset : HeapIs l t e set hs) (ho : Has l t e o (Refers r)) (hheap : HeapIs l t e h hh)
      (members : List Ref) (owned : (hs.get r).owned ≡ members) (named : (q : Ref) → is_in q members ≡ true → is_reference q ≡ true)
    where
      abbrev ok : Ref → Bool
      ok q = wrapped t hh q && writable t entry rs q

      abbrev test : Ref → Bool
      test q = not (is_in q (hs.get r).owned) || ok q

      member_ok : (q : Ref) → every ok members ≡ true → test q ≡ true
      member_ok q h = by (is_in q (hs.get r).owned) refl
        where
          by : (b : Bool) → is_in q (hs.get r).owned ≡ b → (not b || ok q) ≡ true
          by true e = every_in ok q members h (ap (is_in q) (sym owned) ∙ e)
          by false e = refl

      all_ok : ((q : Ref) → is_reference q ≡ true → test q ≡ true) → every ok members ≡ true
      all_ok h = every_from ok members (λ q m. by q (is_in q (hs.get r).owned) (ap (is_in q) owned ∙ m) (h q (named q m)))
        where
          by : (q : Ref) (b : Bool) → b ≡ true → (not b || ok q) ≡ true → ok q ≡ true
          by q true i k = k
          by q false i k = absurd (cc)

      -- of a type with a fixed set, whose new set stands apart from the heap
      abbrev fixed_formulas : List Formula
      fixed_formulas = (set ∷ o ∷ h ∷ me ∷ []) ++ a.writes ++ a.entry ∷ []

      abbrev behind : Ref → List Value
      behind q = HeapValue (raw l.program entry) ∷ ref_value q ∷ []

      abbrev tail : Ref → List Value
      tail q = (map ref_value rs ++ HeapValue (raw l.program entry) ∷ []) ++ ref_value q ∷ []

      tail_at : (q : Ref) (j : ℕ) → argument (tail q) j ≡ argument (map ref_value rs ++ behind q) j
      tail_at q j = ap (λ ys. argument ys j) (append_assoc (map ref_value rs) (HeapValue (raw l.program entry) ∷ []) (ref_value q ∷ []))

      fixed_values : List Value
      fixed_values = HeapValue (raw l.program hs) ∷ ref_value r ∷ HeapValue (raw l.program hh) ∷ ref_value t ∷ (map ref_value rs ++ HeapValue (raw l.program entry) ∷ [])

      pub fixed_is : (z : Quantified) → slice_get l.quantified n ≡ Some z → z.body ≡ (members_quantified true n (length rs)).body → Is l t e (Node k.All (pos n) (row fixed_formulas)) (every ok members)
      unfolding fixed_values
      fixed_is z is body_is =
          all_is n z is fixed_formulas fixed_values (more hset (more ho (more hheap (more (has_me l t e) (writes_have a.writes rs a.entry entry hwrites hentry))))) (every ok members) test
          (λ q. subst (λ f. GivesBy l.program (BodyHolds l.program e.env.me (suc n) (drop (suc n) l.quantified)) (λ o h k. Unit {0}) (env_of e.env.me (fixed_values ++ ref_value q ∷ [])) f (BoolValue (test q))) (sym body_is) (one_body q))
          (λ h q named. member_ok q h) all_ok
        where
          shift : (q : Ref) (j : ℕ) → argument (fixed_values ++ ref_value q ∷ []) (4 + j) ≡ argument (map ref_value rs ++ behind q) j
          shift q j = let y : 4 + j ≡ suc (suc (suc (suc j))) = omega arith in ap (argument (fixed_values ++ ref_value q ∷ [])) y ∙ tail_at q j

          entry_at : (q : Ref) → HeapValue (raw l.program entry) ≡ argument (fixed_values ++ ref_value q ∷ []) (4 + length rs)
          entry_at q = let y : length rs ≡ length rs + 0 = omega arith in sym (shift q (length rs) ∙ ap (argument (map ref_value rs ++ behind q)) y ∙ behind_at rs (behind q) 0)

          bound_at : (q : Ref) → ref_value q ≡ argument (fixed_values ++ ref_value q ∷ []) (5 + length rs)
          bound_at q = let y : 5 + length rs ≡ 4 + (length rs + 1) = omega arith in sym (ap (argument (fixed_values ++ ref_value q ∷ [])) y ∙ shift q (length rs + 1) ∙ behind_at rs (behind q) 1)

          one_body : (q : Ref) → GivesBy l.program (BodyHolds l.program e.env.me (suc n) (drop (suc n) l.quantified)) (λ o h k. Unit {0}) (env_of e.env.me (fixed_values ++ ref_value q ∷ [])) (members_quantified true n (length rs)).body (BoolValue (test q))
          one_body q =
              body.members_is l.program (BodyHolds l.program e.env.me (suc n) (drop (suc n) l.quantified)) (λ o h k. Unit {0}) (env_of e.env.me (fixed_values ++ ref_value q ∷ []))
              (heap 0) (reference 1) (heap 2) (reference 3) (heap (4 + length rs)) (reference (5 + length rs)) (references_from 4 (length rs)) hs hh entry r t q rs
              ([], refl, refl) ([], refl, refl) ([], refl, refl) ([], refl, refl) (refs_from l.program (BodyHolds l.program e.env.me (suc n) (drop (suc n) l.quantified)) (λ o h k. Unit {0}) e.env.me (fixed_values ++ ref_value q ∷ []) 4 rs (behind q) (shift q)) ([], refl, entry_at q) ([], refl, bound_at q)

      -- of any other type, whose set is that of the heap
      abbrev kept_formulas : List Formula
      kept_formulas = (h ∷ o ∷ me ∷ []) ++ a.writes ++ a.entry ∷ []

      kept_values : List Value
      kept_values = HeapValue (raw l.program hh) ∷ ref_value r ∷ ref_value t ∷ (map ref_value rs ++ HeapValue (raw l.program entry) ∷ [])

      pub kept_is : (hs.get r).owned ≡ (hh.get r).owned → (z : Quantified) → slice_get l.quantified n ≡ Some z → z.body ≡ (members_quantified false n (length rs)).body → Is l t e (Node k.All (pos n) (row kept_formulas)) (every ok members)
      unfolding kept_values
      kept_is same z is body_is =
          all_is n z is kept_formulas kept_values (more hheap (more ho (more (has_me l t e) (writes_have a.writes rs a.entry entry hwrites hentry)))) (every ok members) test
          (λ q. subst (λ f. GivesBy l.program (BodyHolds l.program e.env.me (suc n) (drop (suc n) l.quantified)) (λ o h k. Unit {0}) (env_of e.env.me (kept_values ++ ref_value q ∷ [])) f (BoolValue (test q))) (sym body_is)
          (subst (λ ms. GivesBy l.program (BodyHolds l.program e.env.me (suc n) (drop (suc n) l.quantified)) (λ o h k. Unit {0}) (env_of e.env.me (kept_values ++ ref_value q ∷ [])) (members_quantified false n (length rs)).body (BoolValue (not (is_in q ms) || ok q))) (sym same) (one_body q)))
          (λ h q named. member_ok q h) all_ok
        where
          shift : (q : Ref) (j : ℕ) → argument (kept_values ++ ref_value q ∷ []) (3 + j) ≡ argument (map ref_value rs ++ behind q) j
          shift q j = let y : 3 + j ≡ suc (suc (suc j)) = omega arith in ap (argument (kept_values ++ ref_value q ∷ [])) y ∙ tail_at q j

          entry_at : (q : Ref) → HeapValue (raw l.program entry) ≡ argument (kept_values ++ ref_value q ∷ []) (3 + length rs)
          entry_at q = let y : length rs ≡ length rs + 0 = omega arith in sym (shift q (length rs) ∙ ap (argument (map ref_value rs ++ behind q)) y ∙ behind_at rs (behind q) 0)

          bound_at : (q : Ref) → ref_value q ≡ argument (kept_values ++ ref_value q ∷ []) (4 + length rs)
          bound_at q = let y : 4 + length rs ≡ 3 + (length rs + 1) = omega arith in sym (ap (argument (kept_values ++ ref_value q ∷ [])) y ∙ shift q (length rs + 1) ∙ behind_at rs (behind q) 1)

          one_body : (q : Ref) → GivesBy l.program (BodyHolds l.program e.env.me (suc n) (drop (suc n) l.quantified)) (λ o h k. Unit {0}) (env_of e.env.me (kept_values ++ ref_value q ∷ [])) (members_quantified false n (length rs)).body (BoolValue (not (is_in q (hh.get r).owned) || ok q))
          one_body q =
              body.members_is l.program (BodyHolds l.program e.env.me (suc n) (drop (suc n) l.quantified)) (λ o h k. Unit {0}) (env_of e.env.me (kept_values ++ ref_value q ∷ []))
              (heap 0) (reference 1) (heap 0) (reference 2) (heap (3 + length rs)) (reference (4 + length rs)) (references_from 3 (length rs)) hh hh entry r t q rs
              ([], refl, refl) ([], refl, refl) ([], refl, refl) ([], refl, refl) (refs_from l.program (BodyHolds l.program e.env.me (suc n) (drop (suc n) l.quantified)) (λ o h k. Unit {0}) e.env.me (kept_values ++ ref_value q ∷ []) 3 rs (behind q) (shift q)) ([], refl, entry_at q) ([], refl, bound_at q)
