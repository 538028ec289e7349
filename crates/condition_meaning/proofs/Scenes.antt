-- A scene of terms that stands for a scene of values, and the scene of constants that does.
use Rattle.std.proofs.Common.{◌≡◌, ℕ, zero, suc, ◌+◌, ◌<◌, ◌≤◌, ◌==◌, Bool, true, false, inl, inr, List, [], ◌∷◌, ◌++◌, map, length, get_or, refl, sym, ap, ◌∙◌, subst, arith}
use Rattle.std.specs.Prelude.{pos, slice_index_or}
use Rattle.std.proofs.lemmas.Bool.{eq-eqb}
use Rattle.std.proofs.lemmas.List.{get_or_append_left, get_or_past, get_or-append-add, length-append}
use Rattle.object_types.specs.declared.references.Ref.{Ref}
use Rattle.object_types.specs.declared.values.Value.{Value as Scalar}
use Rattle.object_types.specs.declared.values.Value.TheVariants.{Int, Ref as Refers}
use Rattle.object_types.specs.References.{null as null_ref}
use Rattle.object_types.specs.Values.{number_of, referent}
use Rattle.method.specs.Tables.{local}
use Rattle.condition_meaning.proofs.Near.{Near}
use Rattle.method.specs.SpecValue as v
use Rattle.terms.specs.Formula.{Formula}
use Rattle.term_meaning.specs.RawHeaps.{raw}
use Rattle.term_meaning.specs.Meaning.{Value, PlainValue, HeapValue, Env, Language, ref_value, env_of, argument as at_value}
use Rattle.axiom_instances.proofs.Kit as kit
use Rattle.axiom_instances.proofs.Kit.{HaveAll, none, more, node_has}
use Rattle.conditions.specs.Formulas.{nat, null, row}
use Rattle.conditions.specs.Symbolic.{Symbolic, Truth, Number, Reference, term}
use Rattle.conditions.specs.Annotations.{Scene, bind_ref, symbolic_at, bound_ref, parts, constant_like, constants_like, references_like, formal_scene, subject_of}
use Rattle.conditions.specs.Ways.{StandsFor}
use Rattle.condition_meaning.proofs.Truths as truths
use Rattle.condition_meaning.proofs.Constants.{EachNumber}
use Rattle.condition_meaning.proofs.Forms.{parts_size, constants_like_size}
use Rattle.condition_meaning.proofs.Places.{below_or, behind_five, in_first, in_second, in_third, part, local_part, entry_part, bound_part, last_part, like_at, like_past, bound_like_at, bound_like_past, EachPlace}

module _ (l : Language) where
  abbrev pub Stands : Env → Symbolic → Scalar → Type 0
  Stands e = StandsFor (truths.Is l e) (truths.Has l e)

  -- the hidden variables apart; `inside` a \claims the scene has a subject
  pub record Match (hidden : ℕ → Bool) (inside : Bool) (e : Env) (x : Scene) (s : v.Scene) : Type 0 where
    pub after : truths.HeapIs l e x.after s.after
    pub before : truths.HeapIs l e x.before s.before
    pub me : truths.Has l e x.me (Refers s.me)
    pub this : truths.Has l e x.this (Refers s.this)
    pub locals : (i : ℕ) → hidden i ≡ false → Stands e (symbolic_at x.locals i) (local s.locals i)
    pub entry : (i : ℕ) → Stands e (symbolic_at x.entry i) (local s.entry i)
    pub entry_size : length x.entry ≡ length s.entry
    pub result : Stands e x.result s.result
    pub bound : (i : ℕ) → truths.Has l e (bound_ref x i) (Refers (slice_index_or s.bound i null_ref))
    pub subject : (a : Scalar) × truths.Has l e x.subject a × (referent a ≡ s.subject)
    pub plain : inside ≡ false → s.subject ≡ null_ref
    pub proper_after : Near l.program s.after
    pub proper_before : Near l.program s.before

  pub stands_term : (e : Env) (x : Symbolic) (a : Scalar) → Stands e x a → truths.Has l e (term x) a
  stands_term e (Truth x) a s = subst (λ (y : Scalar). truths.Has l e (term (Truth x)) y) (sym s.2) (truths.has_says l e x s.0 s.1)
  stands_term e (Number x) a s = subst (λ (y : Scalar). truths.Has l e x y) (sym s.2) s.1
  stands_term e (Reference x) a s = subst (λ (y : Scalar). truths.Has l e x y) (sym s.2) s.1

  -- The values at a scene's places.

  abbrev table : (ℕ → Scalar) → ℕ → ℕ → List Value
  table f i zero = []
  table f i (suc n) = PlainValue (f i) ∷ table f (suc i) n

  table_at : (f : ℕ → Scalar) (i n k j : ℕ) (d : Value) → j ≡ i + k → k < n → get_or (table f i n) k d ≡ PlainValue (f j)
  table_at f i zero k j d e h = absurd (omega (arith, h))
  table_at f i (suc n) zero j d e h = ap (λ j. PlainValue (f j)) (let z : i ≡ j = omega (arith, e) in z)
  table_at f i (suc n) (suc k) j d e h = table_at f (suc i) n k j d (omega (arith, e)) (omega (arith, h))

  table_size : (f : ℕ → Scalar) (i n : ℕ) → length (table f i n) ≡ n
  table_size f i zero = refl
  table_size f i (suc n) = ap suc (table_size f (suc i) n)

  abbrev bound_at : v.Scene → ℕ → Scalar
  bound_at s i = Refers (slice_index_or s.bound i null_ref)

  module _ (x : Scene) (s : v.Scene) where
    abbrev ls : List Value
    ls = table (local s.locals) 0 (length x.locals)

    abbrev es : List Value
    es = table (local s.entry) 0 (length x.entry)

    abbrev bs : List Value
    bs = table (bound_at s) 0 (length x.bound)

    abbrev pub part_values : List Value
    part_values = HeapValue (raw l.program s.after) ∷ HeapValue (raw l.program s.before) ∷ ref_value s.me ∷ ref_value s.this ∷ PlainValue s.result ∷ (ls ++ es) ++ bs

    local_value : (i : ℕ) → i < length x.locals → at_value part_values (5 + i) ≡ PlainValue (local s.locals i)
    local_value i h =
        behind_five (HeapValue (raw l.program s.after)) (HeapValue (raw l.program s.before)) (ref_value s.me) (ref_value s.this) (PlainValue s.result) ((ls ++ es) ++ bs) (5 + i) i (ref_value null_ref) refl
        ∙ in_first ls es bs i (ref_value null_ref) (omega (arith, h, table_size (local s.locals) 0 (length x.locals))) ∙ table_at (local s.locals) 0 (length x.locals) i i (ref_value null_ref) (omega arith) h

    entry_value : (i : ℕ) → i < length x.entry → at_value part_values (5 + length x.locals + i) ≡ PlainValue (local s.entry i)
    entry_value i h =
        behind_five (HeapValue (raw l.program s.after)) (HeapValue (raw l.program s.before)) (ref_value s.me) (ref_value s.this) (PlainValue s.result) ((ls ++ es) ++ bs) (5 + length x.locals + i) (length x.locals + i) (ref_value null_ref) (omega arith)
        ∙ in_second ls es bs (length x.locals + i) i (ref_value null_ref) (omega (arith, table_size (local s.locals) 0 (length x.locals))) (omega (arith, h, table_size (local s.entry) 0 (length x.entry))) ∙ table_at (local s.entry) 0 (length x.entry) i i (ref_value null_ref) (omega arith) h

    bound_value : (i : ℕ) → i < length x.bound → at_value part_values (5 + length x.locals + length x.entry + i) ≡ PlainValue (bound_at s i)
    bound_value i h =
        behind_five (HeapValue (raw l.program s.after)) (HeapValue (raw l.program s.before)) (ref_value s.me) (ref_value s.this) (PlainValue s.result) ((ls ++ es) ++ bs) (5 + length x.locals + length x.entry + i) (length x.locals + length x.entry + i) (ref_value null_ref) (omega arith)
        ∙ in_third ls es bs (length x.locals + length x.entry + i) i (ref_value null_ref) (omega (arith, table_size (local s.locals) 0 (length x.locals), table_size (local s.entry) 0 (length x.entry))) ∙ table_at (bound_at s) 0 (length x.bound) i i (ref_value null_ref) (omega arith) h

    pub values_size : length part_values ≡ length (parts x)
    values_size = omega (arith, parts_size x, length-append (ls ++ es) bs, length-append ls es, table_size (local s.locals) 0 (length x.locals), table_size (local s.entry) 0 (length x.entry), table_size (bound_at s) 0 (length x.bound))

    pub last_value : (n : ℕ) → length (parts x) ≤ n → at_value part_values n ≡ ref_value null_ref
    last_value n h = get_or_past part_values n (ref_value null_ref) (omega (arith, h, values_size))

    -- with one more behind
    pub one_behind : (q : Ref) (n : ℕ) → n == length (parts x) ≡ false → at_value (part_values ++ ref_value q ∷ []) n ≡ at_value part_values n
    one_behind q n other =
        elim (below_or n (length (parts x))) [
          | inl h ↦ get_or_append_left part_values (ref_value q ∷ []) (ref_value null_ref) n (omega (arith, h, values_size))
          | inr h ↦
              elim (below_or n (suc (length (parts x)))) [
                | inl g ↦ absurd (let same : n == length (parts x) ≡ true = eq-eqb n (length (parts x)) (omega (arith, h, g)) in cc)
                | inr g ↦ get_or_past (part_values ++ ref_value q ∷ []) n (ref_value null_ref) (omega (arith, g, values_size, length-append part_values (ref_value q ∷ []))) ∙ sym (last_value n h)
              ]
        ]

    pub at_behind : (q : Ref) → at_value (part_values ++ ref_value q ∷ []) (length (parts x)) ≡ ref_value q
    at_behind q = ap (λ n. at_value (part_values ++ ref_value q ∷ []) n) (let z : length (parts x) ≡ length part_values + 0 = omega (arith, values_size) in z) ∙ get_or-append-add part_values (ref_value q ∷ []) 0 (ref_value null_ref)

  -- What stands at the places has these values.
  pub places_have : (hidden : ℕ → Bool) (inside : Bool) (e : Env) (x : Scene) (s : v.Scene) → Match hidden inside e x s → EachPlace (λ n. kit.Has l e (part x n) (at_value (part_values x s) n)) hidden x
  places_have hidden inside e x s m = record {
    after = m.after;
    before = m.before;
    me = m.me;
    this = m.this;
    result = stands_term e x.result s.result m.result;
    locals = λ i h shown. both_sides (sym (local_part x i h)) (sym (local_value x s i h)) (stands_term e (symbolic_at x.locals i) (local s.locals i) (m.locals i shown));
    entry = λ i h. both_sides (sym (entry_part x i h)) (sym (entry_value x s i h)) (stands_term e (symbolic_at x.entry i) (local s.entry i) (m.entry i));
    bound = λ i h. both_sides (sym (bound_part x i)) (sym (bound_value x s i h)) (m.bound i);
    last = both_sides (sym (last_part x (length (parts x)) (omega arith))) (sym (last_value x s (length (parts x)) (omega arith))) (truths.has_null l e);
  }
    where
      both_sides : {f g : Formula} {y z : Value} → f ≡ g → y ≡ z → kit.Has l e f y → kit.Has l e g z
      both_sides {f} {g} {y} {z} a b h = subst (λ w. kit.Has l e g w) b (subst (λ k. kit.Has l e k y) a h)

  pub all_have : (e : Env) (x : Scene) (vs : List Value) (ms : List ℕ) → EachNumber (λ n. kit.Has l e (part x n) (at_value vs n)) ms → HaveAll l e (row (map (λ n. part x n) ms)) (map (λ n. at_value vs n) ms)
  all_have e x vs [] a = none
  all_have e x vs (n ∷ ms) a = more a.0 (all_have e x vs ms a.1)

  -- The constants that stand for the places.
  module _ (hidden : ℕ → Bool) (inside : Bool) (e : Env) (x : Scene) (s : v.Scene) (m : Match hidden inside e x s) (me q : Ref) where
    abbrev pub inner : Env
    inner = env_of me (part_values x s ++ ref_value q ∷ [])

    here : (n : ℕ) → n < length (parts x) → at_value (part_values x s ++ ref_value q ∷ []) n ≡ at_value (part_values x s) n
    here n h = get_or_append_left (part_values x s) (ref_value q ∷ []) (ref_value null_ref) n (omega (arith, h, values_size x s))

    stands_constant : (w : Symbolic) (a : Scalar) (n : ℕ) → Stands e w a → at_value (part_values x s ++ ref_value q ∷ []) n ≡ PlainValue a → Stands inner (constant_like n w) a
    stands_constant (Truth b) a n st h = (number_of st.0, node_has none (ap PlainValue (sym st.2) ∙ sym h), st.2)
    stands_constant (Number y) a n st h = (st.0, node_has none (ap PlainValue (sym st.2) ∙ sym h), st.2)
    stands_constant (Reference y) a n st h = (st.0, node_has none (ap PlainValue (sym st.2) ∙ sym h), st.2)

    stands_zero : (a : Scalar) → Stands e (Number (nat 0)) a → Stands inner (Number (nat 0)) a
    stands_zero a st = (pos 0, truths.has_int l inner (pos 0), st.2 ∙ ap Int (truths.only_int l e (pos 0) st.0 st.1))

    zero_behind : (a : Scalar) (w z : Symbolic) → w ≡ Number (nat 0) → z ≡ Number (nat 0) → Stands e w a → Stands inner z a
    zero_behind a w z h k st = subst (λ y. Stands inner y a) (sym k) (stands_zero a (subst (λ y. Stands e y a) h st))

    locals_stand : (i : ℕ) → hidden i ≡ false → Stands inner (symbolic_at (constants_like 5 x.locals) i) (local s.locals i)
    locals_stand i shown =
        elim (below_or i (length x.locals)) [
          | inl h ↦ subst (λ w. Stands inner w (local s.locals i)) (sym (like_at 5 x.locals i h)) (stands_constant (symbolic_at x.locals i) (local s.locals i) (5 + i) (m.locals i shown) (here (5 + i) (omega (arith, h, parts_size x)) ∙ local_value x s i h))
          | inr h ↦ zero_behind (local s.locals i) (symbolic_at x.locals i) (symbolic_at (constants_like 5 x.locals) i) (get_or_past x.locals i (Number (nat 0)) h) (like_past 5 x.locals i h) (m.locals i shown)
        ]

    entries_stand : (i : ℕ) → Stands inner (symbolic_at (constants_like (5 + length x.locals) x.entry) i) (local s.entry i)
    entries_stand i =
        elim (below_or i (length x.entry)) [
          | inl h ↦ subst (λ w. Stands inner w (local s.entry i)) (sym (like_at (5 + length x.locals) x.entry i h)) (stands_constant (symbolic_at x.entry i) (local s.entry i) (5 + length x.locals + i) (m.entry i) (here (5 + length x.locals + i) (omega (arith, h, parts_size x)) ∙ entry_value x s i h))
          | inr h ↦ zero_behind (local s.entry i) (symbolic_at x.entry i) (symbolic_at (constants_like (5 + length x.locals) x.entry) i) (get_or_past x.entry i (Number (nat 0)) h) (like_past (5 + length x.locals) x.entry i h) (m.entry i)
        ]

    bound_stands : (i : ℕ) → truths.Has l inner (get_or (references_like (5 + length x.locals + length x.entry) x.bound) i null) (bound_at s i)
    bound_stands i =
        elim (below_or i (length x.bound)) [
          | inl h ↦ subst (λ r. truths.Has l inner r (bound_at s i)) (sym (bound_like_at (5 + length x.locals + length x.entry) x.bound i h)) (node_has none (sym (here (5 + length x.locals + length x.entry + i) (omega (arith, h, parts_size x)) ∙ bound_value x s i h)))
          | inr h ↦
              let nothing : bound_at s i ≡ Refers null_ref = truths.same_scalar l e null (bound_at s i) (Refers null_ref) (subst (λ r. truths.Has l e r (bound_at s i)) (get_or_past x.bound i null h) (m.bound i)) (truths.has_null l e) in
              subst (λ r. truths.Has l inner r (bound_at s i)) (sym (bound_like_past (5 + length x.locals + length x.entry) x.bound i h)) (subst (λ a. truths.Has l inner null a) (sym nothing) (truths.has_null l inner))
        ]

    pub formal_match : inside ≡ false → Match hidden false inner (formal_scene x) s
    formal_match out = record {
      after = node_has none (sym (here 0 (omega (arith, parts_size x))));
      before = node_has none (sym (here 1 (omega (arith, parts_size x))));
      me = node_has none (sym (here 2 (omega (arith, parts_size x))));
      this = node_has none (sym (here 3 (omega (arith, parts_size x))));
      locals = locals_stand;
      entry = entries_stand;
      entry_size = constants_like_size (5 + length x.locals) x.entry ∙ m.entry_size;
      result = stands_constant x.result s.result 4 m.result (here 4 (omega (arith, parts_size x)));
      bound = bound_stands;
      subject = (Refers null_ref, truths.has_null l inner, sym (m.plain out));
      plain = λ h. m.plain out;
      proper_after = m.proper_after;
      proper_before = m.proper_before;
    }

    pub subject_has : truths.Has l inner (subject_of x) (Refers q)
    subject_has = node_has none (sym (at_behind x s q))

  pub bind_match : (hidden : ℕ → Bool) (inside : Bool) (e : Env) (x : Scene) (s : v.Scene) (r : Formula) (q : Ref) → truths.Has l e r (Refers q) → Match hidden inside e x s → Match hidden inside e (bind_ref r x) (v.bind_ref q s)
  bind_match hidden inside e x s r q h m = record { after = m.after; before = m.before; me = m.me; this = m.this; locals = m.locals; entry = m.entry; entry_size = m.entry_size; result = m.result; bound = bound; subject = m.subject; plain = m.plain; proper_after = m.proper_after; proper_before = m.proper_before }
    where
      bound : (i : ℕ) → truths.Has l e (bound_ref (bind_ref r x) i) (Refers (slice_index_or (q ∷ s.bound) i null_ref))
      bound zero = h
      bound (suc i) = m.bound i
