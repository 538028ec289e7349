-- What the columns of a heap of the program say.
use Rattle.std.proofs.Common.{◌≡◌, ℕ, Bool, true, false, [], ◌∷◌, ℤ, pos, refl, ap, subst}
use Rattle.object_types.specs.declared.references.Ref.{Ref}
use Rattle.object_types.specs.declared.records.Mode.{Mode}
use Rattle.object_types.specs.declared.records.Mode.TheVariants.{Absent, Open, Closed, Freed}
use Rattle.object_types.specs.References.{null as null_ref}
use Rattle.object_types.specs.Values.{says}
use Rattle.object_types.specs.Sets.{is_in}
use Rattle.object_types.specs.Heap.{Heap, closed_in, is_closed as closed_mode}
use Rattle.method.specs.WellFormed.{WellFormed, IsHeapOf}
use Rattle.method.specs.Legal.{Good}
use Rattle.terms.specs.Formula.{Formula}
use Rattle.term_meaning.specs.Columns.{Modes, Owners, Counts, OwnedSets, ClaimedSets}
use Rattle.term_meaning.specs.RawHeaps.{RawHeap, ModeAt, OwnerAt, CountAt, MemberAt, ClaimedAt, raw, mode_number, Shows}
use Rattle.term_meaning.specs.RawRelations.{IsSys, IsGood}
use Rattle.term_meaning.specs.Meaning.{Value, PlainValue, HeapValue, Env, number, reference, int_value, ref_value, Language}
use Rattle.term_meaning.proofs.Related.{sys_raw, good_raw}
use Rattle.axiom_instances.specs.Terms.{num, null, eq, typ, mode, owner, count, owns, lists, is_open, is_closed, owned_by, sys, good}
use Rattle.axiom_instances.proofs.Kit.{Has, Holds, Given, one, none, node_given, node_holds, node_has, eq_given, eq_holds, num_has, get_has}

-- Modes and their numbers.

abbrev pub mode_value : Mode → Value
mode_value m = int_value (mode_number m)

pub is_absent_mode : (m : Mode) → mode_value m ≡ int_value (pos 0) → m ≡ Absent
is_absent_mode Absent h = refl
is_absent_mode Open h = absurd (cc)
is_absent_mode Closed h = absurd (cc)
is_absent_mode Freed h = absurd (cc)

pub is_open_mode : (m : Mode) → mode_value m ≡ int_value (pos 1) → m ≡ Open
is_open_mode Absent h = absurd (cc)
is_open_mode Open h = refl
is_open_mode Closed h = absurd (cc)
is_open_mode Freed h = absurd (cc)

pub is_freed_mode : (m : Mode) → mode_value m ≡ int_value (pos 3) → m ≡ Freed
is_freed_mode Absent h = absurd (cc)
is_freed_mode Open h = absurd (cc)
is_freed_mode Closed h = absurd (cc)
is_freed_mode Freed h = refl

pub closed_by_number : (m : Mode) → mode_value m ≡ int_value (pos 2) → closed_mode m ≡ true
closed_by_number Absent h = absurd (cc)
closed_by_number Open h = absurd (cc)
closed_by_number Closed h = refl
closed_by_number Freed h = absurd (cc)

pub number_of_closed : (m : Mode) → closed_mode m ≡ true → mode_value m ≡ int_value (pos 2)
number_of_closed Absent h = absurd (cc)
number_of_closed Open h = absurd (cc)
number_of_closed Closed h = refl
number_of_closed Freed h = absurd (cc)

-- Memberships.

pub says_one : (b : Bool) → PlainValue (says b) ≡ int_value (pos 1) → b ≡ true
says_one true h = refl
says_one false h = absurd (cc)

pub one_of : (b : Bool) → b ≡ true → PlainValue (says b) ≡ int_value (pos 1)
one_of b h = ap (λ b. PlainValue (says b)) h

pub zero_of : (b : Bool) → b ≡ false → PlainValue (says b) ≡ int_value (pos 0)
zero_of b h = ap (λ b. PlainValue (says b)) h

pub whole_is : (a b : ℤ) → int_value a ≡ int_value b → a ≡ b
whole_is a b h = ap number h

pub refers_is : (a b : Ref) → ref_value a ≡ ref_value b → a ≡ b
refers_is a b h = ap reference h

pub type_is : (a b : ℕ) → int_value (pos a) ≡ int_value (pos b) → a ≡ b
type_is a b h = let e : pos a ≡ pos b = ap number h in cc

-- The formula's value is this heap of the program.
pub record Shown (l : Language) (e : Env) (f : Formula) (h : Heap) : Type 0 where
  pub has : Has l e f (HeapValue (raw l.program h))
  pub proper : IsHeapOf l.program h

pub record WellFormedAt (l : Language) (e : Env) (f : Formula) : Type 0 where
  pub heap : Heap
  pub shown : Shown l e f heap
  pub well_formed : WellFormed l.program heap

pub record GoodAt (l : Language) (e : Env) (f : Formula) : Type 0 where
  pub heap : Heap
  pub shown : Shown l e f heap
  pub good : Good l.program heap

module _ {l : Language} {e : Env} where
  pub mode_has : {h o : Formula} {x : RawHeap} {r : Ref} → Has l e h (HeapValue x) → Has l e o (ref_value r) → Has l e (mode h o) (PlainValue (x ModeAt r))
  mode_has {h} {o} {x} {r} a b = get_has [] Modes refl a b none

  pub owner_has : {h o : Formula} {x : RawHeap} {r : Ref} → Has l e h (HeapValue x) → Has l e o (ref_value r) → Has l e (owner h o) (PlainValue (x OwnerAt r))
  owner_has {h} {o} {x} {r} a b = get_has [] Owners refl a b none

  pub count_has : {h o : Formula} {x : RawHeap} {r : Ref} → Has l e h (HeapValue x) → Has l e o (ref_value r) → Has l e (count h o) (PlainValue (x CountAt r))
  count_has {h} {o} {x} {r} a b = get_has [] Counts refl a b none

  pub owns_has : {h o q : Formula} {x : RawHeap} {r s : Ref} → Has l e h (HeapValue x) → Has l e o (ref_value r) → Has l e q (ref_value s) → Has l e (owns h o q) (PlainValue (x (MemberAt s) r))
  owns_has {h} {o} {q} {x} {r} {s} a b c = get_has (q ∷ []) OwnedSets refl a b (one c)

  pub lists_has : {h o q : Formula} {x : RawHeap} {r s : Ref} → Has l e h (HeapValue x) → Has l e o (ref_value r) → Has l e q (ref_value s) → Has l e (lists h o q) (PlainValue (x (ClaimedAt s) r))
  lists_has {h} {o} {q} {x} {r} {s} a b c = get_has (q ∷ []) ClaimedSets refl a b (one c)

  pub typ_has : {o : Formula} {r : Ref} → Has l e o (ref_value r) → Has l e (typ o) (int_value (pos r.ty))
  typ_has {o} {r} b = node_has (one b) refl

  pub null_has : Has l e null (ref_value null_ref)
  null_has = record { value = ([], refl, refl) }

  pub type_given : {o : Formula} {r : Ref} {n : ℕ} → Has l e o (ref_value r) → Given l e (eq (typ o) (num (pos n))) → r.ty ≡ n
  type_given {o} {r} {n} b g = type_is r.ty n (eq_given (typ_has b) (num_has (pos n)) g)

  pub type_holds : {o : Formula} {r : Ref} {n : ℕ} → Has l e o (ref_value r) → r.ty ≡ n → Holds l e (eq (typ o) (num (pos n)))
  type_holds {o} {r} {n} b same = eq_holds (typ_has b) (num_has (pos n)) (ap (λ n. int_value (pos n)) same)

  -- A heap of the program in the place of a raw heap.

  pub shown : {f : Formula} {x : RawHeap} {h : Heap} → Has l e f (HeapValue x) → Shows l.program h x → Shown l e f h
  shown {f} {x} {h} a s = record { has = subst (λ x. Has l e f (HeapValue x)) s.is a; proper = s.proper }

  pub sys_given : {f : Formula} {x : RawHeap} → Has l e f (HeapValue x) → Given l e (sys f) → WellFormedAt l e f
  sys_given {f} {x} a g = let d = node_given (one a) g in let s : IsSys l.program x = d.1.yes d.2 in record { heap = s.0; shown = shown a s.1; well_formed = s.2 }

  pub good_given : {f : Formula} {x : RawHeap} → Has l e f (HeapValue x) → Given l e (good f) → GoodAt l e f
  good_given {f} {x} a g = let d = node_given (one a) g in let s : IsGood l.program x = d.1.yes d.2 in record { heap = s.0; shown = shown a s.1; good = s.2 }

  module _ {f : Formula} {h : Heap} (a : Shown l e f h) where
    pub sys_holds : WellFormed l.program h → Holds l e (sys f)
    sys_holds w = node_holds (one a.has) (λ z m. m.holds (sys_raw l.program h w))

    pub good_holds : Good l.program h → Holds l e (good f)
    good_holds w = node_holds (one a.has) (λ z m. m.holds (good_raw l.program h w))

  module _ {f o : Formula} {h : Heap} {r : Ref} (a : Shown l e f h) (b : Has l e o (ref_value r)) where
    pub mode_is : Has l e (mode f o) (int_value (mode_number (h.get r).mode))
    mode_is = mode_has a.has b

    pub owner_is : Has l e (owner f o) (ref_value (h.get r).owner)
    owner_is = owner_has a.has b

    pub count_is : Has l e (count f o) (int_value (h.get r).count)
    count_is = count_has a.has b

    pub closed_given : Given l e (is_closed f o) → closed_in h r ≡ true
    closed_given g = closed_by_number (h.get r).mode (eq_given mode_is (num_has (pos 2)) g)

    pub closed_holds : closed_in h r ≡ true → Holds l e (is_closed f o)
    closed_holds c = eq_holds mode_is (num_has (pos 2)) (number_of_closed (h.get r).mode c)

    pub open_given : Given l e (is_open f o) → (h.get r).mode ≡ Open
    open_given g = is_open_mode (h.get r).mode (eq_given mode_is (num_has (pos 1)) g)

    pub absent_given : Given l e (eq (mode f o) (num (pos 0))) → (h.get r).mode ≡ Absent
    absent_given g = is_absent_mode (h.get r).mode (eq_given mode_is (num_has (pos 0)) g)

    pub freed_given : Given l e (eq (mode f o) (num (pos 3))) → (h.get r).mode ≡ Freed
    freed_given g = is_freed_mode (h.get r).mode (eq_given mode_is (num_has (pos 3)) g)

    pub mode_holds : (m : Mode) → (h.get r).mode ≡ m → Holds l e (eq (mode f o) (num (mode_number m)))
    mode_holds m same = eq_holds mode_is (num_has (mode_number m)) (ap (λ m. mode_value m) same)

    pub count_holds : {n : ℤ} → (h.get r).count ≡ n → Holds l e (eq (count f o) (num n))
    count_holds {n} same = eq_holds count_is (num_has n) (ap int_value same)

    module _ {q : Formula} {s : Ref} (c : Has l e q (ref_value s)) where
      pub owner_given : Given l e (owned_by f o q) → (h.get r).owner ≡ s
      owner_given g = refers_is (h.get r).owner s (eq_given owner_is c g)

      pub owner_holds : (h.get r).owner ≡ s → Holds l e (owned_by f o q)
      owner_holds same = eq_holds owner_is c (ap ref_value same)

      pub member_given : Given l e (eq (owns f o q) (num (pos 1))) → is_in s (h.get r).owned ≡ true
      member_given g = says_one (is_in s (h.get r).owned) (eq_given (owns_has a.has b c) (num_has (pos 1)) g)

      pub member_holds : is_in s (h.get r).owned ≡ true → Holds l e (eq (owns f o q) (num (pos 1)))
      member_holds m = eq_holds (owns_has a.has b c) (num_has (pos 1)) (one_of (is_in s (h.get r).owned) m)

      pub no_member_holds : is_in s (h.get r).owned ≡ false → Holds l e (eq (owns f o q) (num (pos 0)))
      no_member_holds m = eq_holds (owns_has a.has b c) (num_has (pos 0)) (zero_of (is_in s (h.get r).owned) m)

      pub listed_given : Given l e (eq (lists f o q) (num (pos 1))) → is_in s (h.get r).listed ≡ true
      listed_given g = says_one (is_in s (h.get r).listed) (eq_given (lists_has a.has b c) (num_has (pos 1)) g)

      pub not_listed_holds : is_in s (h.get r).listed ≡ false → Holds l e (eq (lists f o q) (num (pos 0)))
      not_listed_holds m = eq_holds (lists_has a.has b c) (num_has (pos 0)) (zero_of (is_in s (h.get r).listed) m)
