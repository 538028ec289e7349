-- What the words of a check stand for in one environment: fields, statuses, what may be written and read.
use Rattle.std.proofs.Common.{◌≡◌, ℕ, zero, suc, Bool, true, false, ◌&&◌, ◌||◌, List, [], ◌∷◌, ◌++◌, map, Some, slice_get, refl, ap, sym, ◌∙◌, subst, arith}
use Rattle.std.proofs.Math.Bool.{or-false, and-true}
use Rattle.std.specs.Prelude.{pos, nat_lt, length}
use Rattle.std.proofs.lemmas.Bool.{ltb-true, lt-ltb}
use Rattle.object_types.specs.declared.references.Ref.{Ref}
use Rattle.object_types.specs.declared.values.Value.TheVariants.{Int, Ref as Refers}
use Rattle.object_types.specs.declared.records.Mode.{Mode}
use Rattle.object_types.specs.declared.records.Mode.TheVariants.{Absent, Open, Closed, Freed}
use Rattle.object_types.specs.References.{same_ref}
use Rattle.object_types.specs.Values.{same_value, says, is_zero_int}
use Rattle.object_types.specs.Sets.{is_in}
use Rattle.object_types.specs.Heap.{Heap, is_closed, closed_in, mutable, wrapped, writable}
use Rattle.method.specs.declared.program.FieldInfo.{FieldInfo}
use Rattle.method.specs.declared.program.Program.{Program}
use Rattle.method.specs.Tables.{read}
use Rattle.method.specs.WellFormed.{IsHeapOf}
use Rattle.method.specs.StableSet.{in_stable_set}
use Rattle.method.proofs.StableTest.{stable_set_law}
use Rattle.machine_laws.proofs.Heaps.{in_more, in_none}
use Rattle.terms.specs.declared.term.Kind.TheVariants as k
use Rattle.terms.specs.Formula.{Formula}
use Rattle.term_meaning.specs.Columns.{Field}
use Rattle.term_meaning.specs.RawHeaps.{mode_number}
use Rattle.term_meaning.specs.Meaning.{Language, column_at}
use Rattle.axiom_instances.proofs.Kit.{one, more, node_has}
use Rattle.axiom_instances.proofs.Stability.{own_in, own_out}
use Rattle.conditions.specs.Formulas.{node, nat, null, me, false_formula, not', and', or', eq, all_of, any_of, is_any, get, field_column, mode, owner, count, owns}
use Rattle.conditions.specs.Formulas as f
use Rattle.conditions.proofs.PathTests.{AllAre}
use Rattle.condition_meaning.proofs.Columns as columns
use Rattle.condition_meaning.proofs.Environments.{Environment, Has, Is, HeapIs, is_yes, is_not, is_and, is_or, is_eq, has_me}

pub get_below : {X : Type 0} (xs : List X) (n : ℕ) (y : X) → slice_get xs n ≡ Some y → nat_lt n (length xs) ≡ true
get_below [] n y e = absurd (cc)
get_below (x ∷ xs) zero y e = lt-ltb 0 (length (x ∷ xs)) (omega arith)
get_below (x ∷ xs) (suc n) y e = let l = ltb-true n (length xs) (get_below xs n y e) in lt-ltb (suc n) (length (x ∷ xs)) (omega (arith, l))

-- the column of a field of the table
pub field_column_at : (p : Program) (g : ℕ) (i : FieldInfo) → slice_get p.fields.items g ≡ Some i → column_at p (pos (field_column g)) ≡ Some (Field g)
field_column_at p g i e = columns.field_column p g (get_below p.fields.items g i e)

pub closed_mode_is : (m : Mode) → same_value (Int (mode_number m)) (Int (pos 2)) ≡ is_closed m
closed_mode_is Absent = refl
closed_mode_is Open = refl
closed_mode_is Closed = refl
closed_mode_is Freed = refl

pub one_is : (b : Bool) → same_value (says b) (Int (pos 1)) ≡ b
one_is true = refl
one_is false = refl

-- one of the truth values is true; all are
abbrev pub any : List Bool → Bool
any [] = false
any (b ∷ bs) = b || any bs

-- all of the truth values are true
abbrev pub all : List Bool → Bool
all [] = true
all (b ∷ bs) = b && all bs

pub any_both : (bs cs : List Bool) → any (bs ++ cs) ≡ any bs || any cs
any_both [] cs = refl
any_both (true ∷ bs) cs = refl
any_both (false ∷ bs) cs = any_both bs cs

pub any_same : (r : Ref) (qs : List Ref) → any (map (same_ref r) qs) ≡ is_in r qs
any_same r [] = sym (in_none r)
any_same r (q ∷ qs) = ap (λ b. same_ref r q || b) (any_same r qs) ∙ sym (in_more r q qs)

module _ (l : Language) (t : Ref) (e : Environment l t) where
  -- terms that stand for these references
  abbrev pub Refer : List Formula → List Ref → Type 0
  Refer = columns.AreRefs l e.env

  -- each formula has the truth value at its place
  abbrev pub Are : List Formula → List Bool → Type 0
  Are = AllAre (Is l t e)

  pub is_so : (x : Formula) (b c : Bool) → b ≡ c → Is l t e x b → Is l t e x c
  is_so x b c same i = subst (λ d. Is l t e x d) same i

  pub is_any_of : (xs : List Formula) (bs : List Bool) → Are xs bs → Is l t e (any_of xs) (any bs)
  is_any_of [] [] a = is_not l t e f.true_formula true (is_yes l t e)
  is_any_of [] (b ∷ bs) a = absurd a
  is_any_of (x ∷ xs) [] a = absurd a
  is_any_of (x ∷ []) (b ∷ []) a = is_so x b (b || false) (sym (or-false b)) a.0
  is_any_of (x ∷ []) (b ∷ c ∷ cs) a = absurd a.1
  is_any_of (x ∷ y ∷ ys) (b ∷ []) a = absurd a.1
  is_any_of (x ∷ y ∷ ys) (b ∷ c ∷ cs) a = is_or l t e x (any_of (y ∷ ys)) b (any (c ∷ cs)) a.0 (is_any_of (y ∷ ys) (c ∷ cs) a.1)

  pub is_all_of : (xs : List Formula) (bs : List Bool) → Are xs bs → Is l t e (all_of xs) (all bs)
  is_all_of [] [] a = is_yes l t e
  is_all_of [] (b ∷ bs) a = absurd a
  is_all_of (x ∷ xs) [] a = absurd a
  is_all_of (x ∷ []) (b ∷ []) a = is_so x b (b && true) (sym (and-true b)) a.0
  is_all_of (x ∷ []) (b ∷ c ∷ cs) a = absurd a.1
  is_all_of (x ∷ y ∷ ys) (b ∷ []) a = absurd a.1
  is_all_of (x ∷ y ∷ ys) (b ∷ c ∷ cs) a = is_and l t e x (all_of (y ∷ ys)) b (all (c ∷ cs)) a.0 (is_all_of (y ∷ ys) (c ∷ cs) a.1)

  pub are_same : (o : Formula) (r : Ref) → Has l t e o (Refers r) → (xs : List Formula) (qs : List Ref) → Refer xs qs → Are (is_any o xs) (map (same_ref r) qs)
  are_same o r ho [] [] a = tt
  are_same o r ho [] (q ∷ qs) a = absurd a
  are_same o r ho (x ∷ xs) [] a = absurd a
  are_same o r ho (x ∷ xs) (q ∷ qs) a = (is_eq l t e o x (Refers r) (Refers q) ho a.0, are_same o r ho xs qs a.1)

  -- A heap term and the objects in it.
  module _ (x : Formula) (h : Heap) (hx : HeapIs l t e x h) where
    module _ (o : Formula) (r : Ref) (ho : Has l t e o (Refers r)) where
      pub has_mode : Has l t e (mode x o) (Int (mode_number (h.get r).mode))
      has_mode = columns.has_mode l e.env x h hx o (Refers r) ho

      pub has_owner : Has l t e (owner x o) (Refers (h.get r).owner)
      has_owner = columns.has_owner l e.env x h hx o (Refers r) ho

      pub has_count : Has l t e (count x o) (Int (h.get r).count)
      has_count = columns.has_count l e.env x h hx o (Refers r) ho

      pub has_field : (g : ℕ) (i : FieldInfo) → slice_get l.program.fields.items g ≡ Some i → Has l t e (get (field_column g) x (o ∷ [])) (read l.program h r g)
      has_field g i in_table = columns.has_field l e.env x h hx o (Refers r) g (get_below l.program.fields.items g i in_table) ho

      pub is_owned_by : (w : Formula) (q : Ref) → Has l t e w (Refers q) → Is l t e (eq (owner x o) w) (same_ref (h.get r).owner q)
      is_owned_by w q hw = columns.is_owned_by l e.env x h hx o w (Refers r) q ho hw

      pub is_closed_now : Is l t e (f.closed x o) (closed_in h r)
      is_closed_now = columns.is_closed_term l e.env x h hx o (Refers r) ho

      pub is_mutable : Is l t e (f.mutable me x o) (mutable t h r)
      is_mutable = columns.is_mutable l e.env x h hx o me (Refers r) t ho (has_me l t e)

      pub is_wrapped : Is l t e (f.wrapped me x o) (wrapped t h r)
      is_wrapped = columns.is_wrapped l e.env x h hx o me (Refers r) t ho (has_me l t e)

      pub is_unclaimed : Is l t e (eq (count x o) (nat 0)) (is_zero_int (h.get r).count)
      is_unclaimed = columns.is_unclaimed l e.env x h hx o (Refers r) ho

      pub is_member : (w : Formula) (q : Ref) → Has l t e w (Refers q) → Is l t e (owns x o w) (is_in q (h.get r).owned)
      is_member w q hw = columns.is_owned l e.env x h hx o w (Refers r) (Refers q) ho hw

      pub is_stable : IsHeapOf l.program h → Is l t e (node k.Stab (me ∷ x ∷ o ∷ x ∷ [])) (in_stable_set l.program t h r)
      is_stable proper =
          let law = stable_set_law l.program t h proper.finite r in
          node_has (more (has_me l t e) (more hx (more ho (one hx)))) (record { is_bool = refl; yes = λ s. own_out l.program t h r (law.0 s); holds = λ s. law.1 (own_in l.program t h r s) })

      -- in the writes list, or not owned at the entry, where x is the heap there
      pub is_writable : (ws : List Formula) (qs : List Ref) → Refer ws qs → Is l t e (f.writable me x ws o) (writable t h qs r)
      is_writable ws qs hw = columns.is_writable l e.env x h hx o me r t ws qs hw ho (has_me l t e)
