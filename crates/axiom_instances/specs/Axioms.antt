-- The axioms: what is true of heaps in every environment, one row each. From CAV 2010: invariants of good heaps, legal steps, closed objects; from the VCC manual: ownership, claims, what a thread can rely on; from ISO/IEC 9899: division. Own: the exact list, and division by zero.
use Rattle.std.specs.Prelude.{ℕ, zero, suc, ◌==◌, Bool, true, false, not, ◌&&◌, ◌||◌, ℤ, pos, negsuc, List, [], ◌∷◌, ◌++◌, Option, Some, None, slice_get, option_and_then}
use Rattle.terms.specs.declared.term.Kind.{Kind}
use Rattle.terms.specs.declared.term.Kind.TheVariants as k
use Rattle.terms.specs.Formula.{Formula, Formulas, Node, Stop, With, leaf, binary}
use Rattle.method.specs.declared.program.Program.{Program}
use Rattle.method.specs.declared.program.DeclaredType.{DeclaredType}
use Rattle.method.specs.Tables.{is_struct, is_claimable, has_volatile_owns, is_field_of, is_volatile, is_approved, type_of_field}
use Rattle.term_meaning.specs.Columns.{Column, Modes, Owners, OwnedSets, ClaimedSets, Field, Shape}
use Rattle.term_meaning.specs.Meaning.{Language, invariant_of}
use Rattle.term_meaning.specs.Filling.{fill}
use Rattle.axiom_instances.specs.Terms.{trees, num, null, no, both, either, imp, eq, le, all_of, typ, get, mode, owner, count, owns, lists, is_open, is_closed, owned_by, same, range_facts, unwritable, good, sys, inv, legal, kept, touched, rely, frame, stab, idle, clear, is_clean, is_clean_read, kind_of, arguments_of}
use Rattle.axiom_instances.specs.Fitting.{Row, gives, fits, needs, number, heap, ref, int, refs, column, quantified}

-- a claim or a struct of the program
abbrev pub is_type : Program → ℕ → Bool
is_type p ty = (ty == 2) || is_struct p ty

-- what a closed object of the type keeps: fields without volatile, the owned set of a type without volatile_owns, all of a claim
abbrev pub is_fixed : Program → ℕ → Column → Bool
is_fixed p ty (Field f) = is_field_of p f ty && not (is_volatile p f)
is_fixed p ty OwnedSets = is_type p ty && not (has_volatile_owns p ty)
is_fixed p ty ClaimedSets = ty == 2
is_fixed p ty (Shape n) = ty == 2
is_fixed p ty _ = false

-- an approved field of the type
abbrev pub is_approved_of : Program → ℕ → Column → Bool
is_approved_of p ty (Field f) = is_field_of p f ty && is_approved p f
is_approved_of p ty _ = false

-- the declared type of a field's column
abbrev pub type_of_column : Program → Column → Option DeclaredType
type_of_column p (Field f) = Some (type_of_field p f)
type_of_column p _ = None

-- the formula of a shape's column
abbrev pub conjunct_of : Language → Column → Option Formula
conjunct_of l (Shape n) = slice_get l.conjuncts n
conjunct_of l _ = None

-- a heap with an object opened or closed: the heap before, the object, its mode, and the owner of its members
pub record StatusChange : Type 0 where
  pub heap : Formula
  pub object : Formula
  pub mode : ℤ
  pub owner : Formula

-- what a term `open` or `close` changes
abbrev pub change_of : Kind → Formulas → Option StatusChange
change_of k.Open (With h (With o (With t Stop))) = Some (record { heap = h; object = o; mode = pos 1; owner = t })
change_of k.Close (With h (With o (With t Stop))) = Some (record { heap = h; object = o; mode = pos 2; owner = o })
change_of _ _ = None

-- a column of the content: all but mode and owner
abbrev pub is_content_column : Column → Bool
is_content_column Modes = false
is_content_column Owners = false
is_content_column c = true

-- the column of owned sets
abbrev pub is_owned : Column → Bool
is_owned OwnedSets = true
is_owned _ = false

-- what a list has at this number, counted from 1
abbrev pub item_at : {X : Type 0} → List X → ℕ → Option X
item_at xs zero = None
item_at xs (suc n) = slice_get xs n

module _ (l : Language) (tree : ℕ → Option Formula) where
  -- the row for a heap term, a reference term, an integer term
  abbrev h : (Formula → Row) → Row
  h = heap l tree

  abbrev r : (Formula → Row) → Row
  r = ref l tree

  abbrev z : (Formula → Row) → Row
  z = int l tree

  -- the row for a heap term that opens or closes an object
  abbrev pub status_change : (Formula → StatusChange → Row) → Row
  status_change row = h (λ b. needs (change_of (kind_of b) (arguments_of b)) (row b))

  -- Quantified formulas.

  -- a quantified formula gives its body for each reference
  abbrev pub axiom_1 : Row
  axiom_1 = quantified l tree (λ n body args. r (λ q. gives (imp (Node k.All (pos n) (trees args)) (fill (args ++ q ∷ []) body))))

  -- a quantified formula holds where its body holds of the least reference at which it could fail
  abbrev pub axiom_2 : Row
  axiom_2 = quantified l tree (λ n body args. gives (imp (fill (args ++ Node k.Cex (pos n) (trees args) ∷ []) body) (Node k.All (pos n) (trees args))))

  -- References.

  -- NULL has type 0
  abbrev pub axiom_3a : Row
  axiom_3a = gives (eq (typ null) (num (pos 0)))

  -- nothing else has
  abbrev pub axiom_3b : Row
  axiom_3b = r (λ o. gives (imp (eq (typ o) (num (pos 0))) (eq o null)))

  -- the running thread has type 1
  abbrev pub axiom_3c : Row
  axiom_3c = gives (eq (typ (leaf k.Me (pos 0))) (num (pos 1)))

  -- types are numbers from 0
  abbrev pub axiom_3d : Row
  axiom_3d = r (λ o. gives (le (num (pos 0)) (typ o)))

  -- Clean heaps.

  -- modes are 0 to 3
  abbrev pub axiom_4a : Row
  axiom_4a = h (λ x. r (λ o. fits (is_clean l.program x) (gives (both (le (num (pos 0)) (mode x o)) (le (mode x o) (num (pos 3)))))))

  -- a member is in a set or not, a conjunct is one of a claim's or not
  abbrev pub axiom_4b : Row
  axiom_4b = number (λ n. needs (tree n) (λ g. fits (is_clean_read l.program g) (gives (either (eq g (num (pos 0))) (eq g (num (pos 1)))))))

  -- Well-formed heaps.

  -- a good heap is well-formed
  abbrev pub axiom_5 : Row
  axiom_5 = h (λ x. gives (imp (good x) (sys x)))

  -- claim counts aren't negative
  abbrev pub axiom_6a : Row
  axiom_6a = h (λ x. r (λ o. gives (imp (sys x) (le (num (pos 0)) (count x o)))))

  -- NULL is absent
  abbrev pub axiom_6b : Row
  axiom_6b = h (λ x. gives (imp (sys x) (eq (mode x null) (num (pos 0)))))

  -- threads are absent: they are no objects
  abbrev pub axiom_6c : Row
  axiom_6c = h (λ x. r (λ o. gives (imp (both (sys x) (eq (typ o) (num (pos 1)))) (eq (mode x o) (num (pos 0))))))

  -- an open object is owned by a thread and isn't claimed
  abbrev pub axiom_7a : Row
  axiom_7a = h (λ x. r (λ o. gives (imp (both (sys x) (is_open x o)) (both (eq (typ (owner x o)) (num (pos 1))) (eq (count x o) (num (pos 0)))))))

  -- what is absent or freed has no owner and isn't claimed
  abbrev pub axiom_7b : Row
  axiom_7b = h (λ x. r (λ o. gives (imp (both (sys x) (either (eq (mode x o) (num (pos 0))) (eq (mode x o) (num (pos 3))))) (both (owned_by x o null) (eq (count x o) (num (pos 0)))))))

  -- a closed object is owned by a thread, or is a member of its closed owner
  abbrev pub axiom_8 : Row
  axiom_8 = h (λ x. r (λ o. gives (imp (both (sys x) (is_closed x o)) (either (eq (typ (owner x o)) (num (pos 1))) (both (is_closed x (owner x o)) (eq (owns x (owner x o) o) (num (pos 1))))))))

  -- the members of a closed object are closed, and owned by it
  abbrev pub axiom_9 : Row
  axiom_9 = h (λ x. r (λ o. r (λ q. gives (imp (all_of (sys x ∷ is_closed x o ∷ eq (owns x o q) (num (pos 1)) ∷ [])) (both (is_closed x q) (owned_by x q o))))))

  -- what a closed claim claims is closed and counts it; only claims claim
  abbrev pub axiom_10 : Row
  axiom_10 = h (λ x. r (λ c. r (λ q. gives (imp (all_of (sys x ∷ is_closed x c ∷ eq (lists x c q) (num (pos 1)) ∷ [])) (all_of (eq (typ c) (num (pos 2)) ∷ is_closed x q ∷ le (num (pos 1)) (count x q) ∷ []))))))

  -- an object of a type that isn't claimable isn't claimed
  abbrev pub axiom_11 : Row
  axiom_11 = h (λ x. r (λ o. number (λ ty. fits (is_type l.program ty && not (is_claimable l.program ty)) (gives (imp (both (sys x) (eq (typ o) (num (pos ty)))) (eq (count x o) (num (pos 0))))))))

  -- fields are values of their types
  abbrev pub axiom_12 : Row
  axiom_12 = h (λ x. r (λ o. column l tree (λ n c ks. needs (type_of_column l.program c) (λ ty. gives (imp (sys x) (range_facts ty (get n x o ks)))))))

  -- Invariants.

  -- in a good heap the invariant of a closed object holds
  abbrev pub axiom_13 : Row
  axiom_13 = h (λ x. r (λ o. gives (imp (both (good x) (is_closed x o)) (inv o x x))))

  -- the invariant of a struct's object gives what the annotation says
  abbrev pub axiom_14a : Row
  axiom_14a = h (λ x. h (λ y. r (λ o. number (λ ty. fits (is_struct l.program ty) (needs (invariant_of l ty) (λ i. gives (imp (eq (typ o) (num (pos ty))) (imp (inv o x y) (fill (o ∷ x ∷ y ∷ []) i)))))))))

  -- and follows from it
  abbrev pub axiom_14b : Row
  axiom_14b = h (λ x. h (λ y. r (λ o. number (λ ty. fits (is_struct l.program ty) (needs (invariant_of l ty) (λ i. gives (imp (eq (typ o) (num (pos ty))) (imp (fill (o ∷ x ∷ y ∷ []) i) (inv o x y)))))))))

  -- in a good heap the conjuncts of a closed claim hold
  abbrev pub axiom_15 : Row
  axiom_15 = h (λ x. r (λ c. column l tree (λ n s ks. needs (conjunct_of l s) (λ f. gives (imp (all_of (good x ∷ is_closed x c ∷ eq (get n x c ks) (num (pos 1)) ∷ [])) (fill (x ∷ ks) f))))))

  -- What other threads may do.

  -- both heaps of a rely step are good
  abbrev pub axiom_16 : Row
  axiom_16 = r (λ t. h (λ x. h (λ y. gives (imp (rely t x y) (both (good x) (good y))))))

  -- a thread's open object stays as it is
  abbrev pub axiom_17 : Row
  axiom_17 = r (λ t. h (λ x. h (λ y. r (λ o. column l tree (λ n c ks. gives (imp (all_of (rely t x y ∷ is_open x o ∷ owned_by x o t ∷ [])) (all_of (is_open y o ∷ owned_by y o t ∷ same n ks x y o ∷ []))))))))

  -- a thread's closed object stays closed and its own, and keeps its count
  abbrev pub axiom_18 : Row
  axiom_18 = r (λ t. h (λ x. h (λ y. r (λ o. gives (imp (all_of (rely t x y ∷ is_closed x o ∷ owned_by x o t ∷ [])) (all_of (is_closed y o ∷ owned_by y o t ∷ eq (count y o) (count x o) ∷ [])))))))

  -- a member of the stable set stays one and keeps what is fixed
  abbrev pub axiom_19 : Row
  axiom_19 = r (λ t. h (λ x. h (λ y. r (λ o. number (λ ty. column l tree (λ n c ks. fits (is_fixed l.program ty c) (gives (imp (all_of (rely t x y ∷ stab t x o x [] ∷ eq (typ o) (num (pos ty)) ∷ [])) (both (stab t y o y []) (same n ks x y o))))))))))

  -- what wasn't a thread's doesn't become its own
  abbrev pub axiom_20 : Row
  axiom_20 = r (λ t. h (λ x. h (λ y. r (λ o. gives (imp (both (rely t x y) (owned_by y o t)) (owned_by x o t))))))

  -- What all may do while a call or a loop runs.

  -- the later heap of a frame is good
  abbrev pub axiom_21a : Row
  axiom_21a = r (λ t. h (λ x. h (λ y. h (λ e. refs l tree (λ w. gives (imp (frame t x y e w) (good y)))))))

  -- an open object that the function may not write stays as it is
  abbrev pub axiom_21b : Row
  axiom_21b = r (λ t. h (λ x. h (λ y. h (λ e. refs l tree (λ w. r (λ o. column l tree (λ n c ks. gives (imp (both (all_of (frame t x y e w ∷ unwritable t x o e w)) (is_open x o)) (all_of (is_open y o ∷ owned_by y o t ∷ same n ks x y o ∷ []))))))))))

  -- a closed one stays closed and its own, and keeps its count
  abbrev pub axiom_21c : Row
  axiom_21c = r (λ t. h (λ x. h (λ y. h (λ e. refs l tree (λ w. r (λ o. gives (imp (both (all_of (frame t x y e w ∷ unwritable t x o e w)) (is_closed x o)) (all_of (is_closed y o ∷ owned_by y o t ∷ eq (count y o) (count x o) ∷ [])))))))))

  -- a member of the stable set stays one and keeps what is fixed
  abbrev pub axiom_21d : Row
  axiom_21d = r (λ t. h (λ x. h (λ y. h (λ e. refs l tree (λ w. r (λ o. number (λ ty. column l tree (λ n c ks. fits (is_fixed l.program ty c) (gives (imp (all_of (frame t x y e w ∷ stab t x o e w ∷ eq (typ o) (num (pos ty)) ∷ [])) (both (stab t y o e w) (same n ks x y o))))))))))))

  -- What a thread can count on.

  -- a closed object that the function may not write is in the stable set
  abbrev pub axiom_22a : Row
  axiom_22a = r (λ t. h (λ x. r (λ o. h (λ e. refs l tree (λ w. gives (imp (all_of (is_closed x o ∷ unwritable t x o e w)) (stab t x o e w)))))))

  -- so is what a member claims
  abbrev pub axiom_22b : Row
  axiom_22b = h (λ x. r (λ t. r (λ c. h (λ e. refs l tree (λ w. r (λ q. gives (imp (all_of (good x ∷ stab t x c e w ∷ eq (lists x c q) (num (pos 1)) ∷ [])) (stab t x q e w))))))))

  -- so is what a member owns, if its type isn't volatile_owns
  abbrev pub axiom_22c : Row
  axiom_22c = h (λ x. r (λ t. r (λ o. h (λ e. refs l tree (λ w. r (λ q. number (λ ty. fits (is_type l.program ty && not (has_volatile_owns l.program ty)) (gives (imp (all_of (good x ∷ stab t x o e w ∷ eq (typ o) (num (pos ty)) ∷ eq (owns x o q) (num (pos 1)) ∷ [])) (stab t x q e w))))))))))

  -- members of the stable set are closed
  abbrev pub axiom_22d : Row
  axiom_22d = h (λ x. r (λ t. r (λ o. h (λ e. refs l tree (λ w. gives (imp (both (good x) (stab t x o e w)) (is_closed x o)))))))

  -- an idle thread owns nothing
  abbrev pub axiom_22e : Row
  axiom_22e = r (λ u. h (λ x. r (λ o. gives (imp (idle u x) (no (owned_by x o u))))))

  -- Legal steps.

  -- a legal step leaves a well-formed heap
  abbrev pub axiom_23a : Row
  axiom_23a = h (λ x. h (λ y. gives (imp (legal x y) (sys y))))

  -- so does a kept step
  abbrev pub axiom_23b : Row
  axiom_23b = h (λ x. h (λ y. gives (imp (kept x y) (sys y))))

  -- over a legal step the invariant holds of each touched object that is closed before or after
  abbrev pub axiom_23c : Row
  axiom_23c = h (λ x. h (λ y. r (λ o. gives (imp (all_of (legal x y ∷ touched o x y ∷ either (is_closed x o) (is_closed y o) ∷ [])) (inv o x y)))))

  -- over a kept step it holds of each object that is closed before or after
  abbrev pub axiom_23d : Row
  axiom_23d = h (λ x. h (λ y. r (λ o. gives (imp (both (kept x y) (either (is_closed x o) (is_closed y o))) (inv o x y)))))

  -- what isn't touched keeps its content
  abbrev pub axiom_23e : Row
  axiom_23e = r (λ o. h (λ x. h (λ y. column l tree (λ n c ks. fits (is_content_column c) (gives (imp (no (touched o x y)) (same n ks x y o)))))))

  -- what it owns keeps its count
  abbrev pub axiom_23f : Row
  axiom_23f = r (λ o. h (λ x. h (λ y. r (λ q. gives (imp (both (no (touched o x y)) (either (owned_by x q o) (owned_by y q o))) (eq (count y q) (count x q)))))))

  -- what is closed before and after a step keeps what is fixed
  abbrev pub axiom_23g : Row
  axiom_23g = h (λ x. h (λ y. r (λ o. number (λ ty. column l tree (λ n c ks. fits (is_fixed l.program ty c) (gives (imp (all_of (either (legal x y) (kept x y) ∷ is_closed x o ∷ is_closed y o ∷ eq (typ o) (num (pos ty)) ∷ [])) (same n ks x y o))))))))

  -- Objects that are opened, closed and cleared.

  -- the object has its new mode
  abbrev pub axiom_24a : Row
  axiom_24a = status_change (λ b c. gives (eq (mode b c.object) (num c.mode)))

  -- every other object has its mode
  abbrev pub axiom_24b : Row
  axiom_24b = status_change (λ b c. r (λ o. gives (either (eq o c.object) (eq (mode b o) (mode c.heap o)))))

  -- the members have the new owner
  abbrev pub axiom_24c : Row
  axiom_24c = status_change (λ b c. r (λ o. gives (imp (eq (owns c.heap c.object o) (num (pos 1))) (owned_by b o c.owner))))

  -- all else has its owner
  abbrev pub axiom_24d : Row
  axiom_24d = status_change (λ b c. r (λ o. gives (imp (eq (owns c.heap c.object o) (num (pos 0))) (eq (owner b o) (owner c.heap o)))))

  -- content is as it was
  abbrev pub axiom_24e : Row
  axiom_24e = status_change (λ b c. r (λ o. column l tree (λ n d ks. fits (is_content_column d) (gives (same n ks c.heap b o)))))

  -- a cleared set has no members
  abbrev pub axiom_24f : Row
  axiom_24f = h (λ x. r (λ o. r (λ q. gives (eq (owns (clear x o) o q) (num (pos 0))))))

  -- every other set is as it was
  abbrev pub axiom_24g : Row
  axiom_24g = r (λ q. r (λ o. h (λ x. r (λ m. gives (either (eq q o) (eq (owns (clear x o) q m) (owns x q m)))))))

  -- every other column is as it was
  abbrev pub axiom_24h : Row
  axiom_24h = h (λ x. r (λ o. r (λ q. column l tree (λ n c ks. fits (not (is_owned c)) (gives (same n ks x (clear x o) q))))))

  -- Division.

  -- sum, difference, quotient and remainder
  abbrev pub sum : Formula → Formula → Formula
  sum a b = binary k.Add a b

  abbrev pub difference : Formula → Formula → Formula
  difference a b = binary k.Sub a b

  abbrev pub div : Formula → Formula → Formula
  div a b = binary k.Div a b

  abbrev pub mod' : Formula → Formula → Formula
  mod' a b = binary k.Mod a b

  -- quotient times divisor plus remainder is the dividend
  abbrev pub axiom_24i : Row
  axiom_24i = z (λ b. z (λ a. gives (imp (no (eq b (num (pos 0)))) (eq a (sum (binary k.Mul b (div a b)) (mod' a b))))))

  -- the remainder isn't negative where the dividend isn't
  abbrev pub axiom_24j : Row
  axiom_24j = z (λ a. z (λ b. gives (imp (both (le (num (pos 0)) a) (no (eq b (num (pos 0))))) (le (num (pos 0)) (mod' a b)))))

  -- it isn't positive where the dividend isn't
  abbrev pub axiom_24k : Row
  axiom_24k = z (λ a. z (λ b. gives (imp (both (le a (num (pos 0))) (no (eq b (num (pos 0))))) (le (mod' a b) (num (pos 0))))))

  -- it is less than a positive divisor, and more than its negative
  abbrev pub axiom_24l : Row
  axiom_24l = z (λ b. z (λ a. gives (imp (le (num (pos 1)) b) (both (le (mod' a b) (difference b (num (pos 1)))) (le (difference (num (pos 1)) b) (mod' a b))))))

  -- it is less than the negative of a negative divisor, and more than the divisor
  abbrev pub axiom_24m : Row
  axiom_24m = z (λ b. z (λ a. gives (imp (le b (num (negsuc 0))) (both (le (mod' a b) (difference (num (negsuc 0)) b)) (le (sum b (num (pos 1))) (mod' a b))))))

  -- Owner approval: what others, what all, and what a step that doesn't touch the owner may do to an approved field.

  -- over a rely step, an approved field of a thread's closed object stays as it is
  abbrev pub axiom_25 : Row
  axiom_25 = r (λ t. h (λ x. h (λ y. r (λ o. number (λ ty. column l tree (λ n c ks. fits (is_approved_of l.program ty c) (gives (imp (all_of (rely t x y ∷ is_closed x o ∷ owned_by x o t ∷ eq (typ o) (num (pos ty)) ∷ [])) (same n ks x y o)))))))))

  -- within a frame, so does one of a closed object that the function may not write
  abbrev pub axiom_26 : Row
  axiom_26 = r (λ t. h (λ x. h (λ y. h (λ e. refs l tree (λ w. r (λ o. number (λ ty. column l tree (λ n c ks. fits (is_approved_of l.program ty c) (gives (imp (all_of (all_of (frame t x y e w ∷ unwritable t x o e w) ∷ is_closed x o ∷ eq (typ o) (num (pos ty)) ∷ [])) (same n ks x y o)))))))))))

  -- over a step that doesn't touch the owner, so does one of what it owns
  abbrev pub axiom_27 : Row
  axiom_27 = h (λ x. h (λ y. r (λ o. r (λ q. number (λ ty. column l tree (λ n c ks. fits (is_approved_of l.program ty c) (gives (imp (all_of (no (touched o x y) ∷ eq (typ q) (num (pos ty)) ∷ either (owned_by x q o) (owned_by y q o) ∷ [])) (same n ks x y q)))))))))

  -- What nothing owns and claims; division by zero.

  -- what is absent owns nothing
  abbrev pub axiom_28a : Row
  axiom_28a = h (λ x. r (λ o. r (λ q. gives (imp (both (sys x) (eq (mode x o) (num (pos 0)))) (eq (owns x o q) (num (pos 0)))))))

  -- and claims nothing
  abbrev pub axiom_28b : Row
  axiom_28b = h (λ x. r (λ o. r (λ q. gives (imp (both (sys x) (eq (mode x o) (num (pos 0)))) (eq (lists x o q) (num (pos 0)))))))

  -- a quotient by 0 is 0
  abbrev pub axiom_29a : Row
  axiom_29a = z (λ a. z (λ b. gives (imp (eq b (num (pos 0))) (eq (div a b) (num (pos 0))))))

  -- a remainder by 0 is the dividend
  abbrev pub axiom_29b : Row
  axiom_29b = z (λ a. z (λ b. gives (imp (eq b (num (pos 0))) (eq (mod' a b) a))))

  -- the axioms by their numbers, each with its parts by theirs, both counted from 1
  abbrev pub axioms : List (List Row)
  axioms =
      (axiom_1 ∷ [])
      ∷ (axiom_2 ∷ [])
      ∷ (axiom_3a ∷ axiom_3b ∷ axiom_3c ∷ axiom_3d ∷ [])
      ∷ (axiom_4a ∷ axiom_4b ∷ [])
      ∷ (axiom_5 ∷ [])
      ∷ (axiom_6a ∷ axiom_6b ∷ axiom_6c ∷ [])
      ∷ (axiom_7a ∷ axiom_7b ∷ [])
      ∷ (axiom_8 ∷ [])
      ∷ (axiom_9 ∷ [])
      ∷ (axiom_10 ∷ [])
      ∷ (axiom_11 ∷ [])
      ∷ (axiom_12 ∷ [])
      ∷ (axiom_13 ∷ [])
      ∷ (axiom_14a ∷ axiom_14b ∷ [])
      ∷ (axiom_15 ∷ [])
      ∷ (axiom_16 ∷ [])
      ∷ (axiom_17 ∷ [])
      ∷ (axiom_18 ∷ [])
      ∷ (axiom_19 ∷ [])
      ∷ (axiom_20 ∷ [])
      ∷ (axiom_21a ∷ axiom_21b ∷ axiom_21c ∷ axiom_21d ∷ [])
      ∷ (axiom_22a ∷ axiom_22b ∷ axiom_22c ∷ axiom_22d ∷ axiom_22e ∷ [])
      ∷ (axiom_23a ∷ axiom_23b ∷ axiom_23c ∷ axiom_23d ∷ axiom_23e ∷ axiom_23f ∷ axiom_23g ∷ [])
      ∷ (axiom_24a ∷ axiom_24b ∷ axiom_24c ∷ axiom_24d ∷ axiom_24e ∷ axiom_24f ∷ axiom_24g ∷ axiom_24h ∷ axiom_24i ∷ axiom_24j ∷ axiom_24k ∷ axiom_24l ∷ axiom_24m ∷ [])
      ∷ (axiom_25 ∷ [])
      ∷ (axiom_26 ∷ [])
      ∷ (axiom_27 ∷ [])
      ∷ (axiom_28a ∷ axiom_28b ∷ [])
      ∷ (axiom_29a ∷ axiom_29b ∷ [])
      ∷ []

  -- The formula of an instance: of the axiom with this number, its part with this one, for these arguments.
  abbrev pub instance : ℕ → ℕ → List ℕ → Option Formula
  instance axiom_number part args = option_and_then (λ rows. option_and_then (λ (row : Row). row args) (item_at rows part)) (item_at axioms axiom_number)
