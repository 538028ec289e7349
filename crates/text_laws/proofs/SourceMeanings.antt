-- What a typed source says stands for something: the annotations and claims of a function, and the invariants of a struct.
use Rattle.std.specs.Prelude.{ℕ, ◌+◌, Bool, true, false, ◌&&◌, if◌then◌else◌, List, [], ◌∷◌, ◌++◌, map, flat_map, Option, Some, None, Contains, option_map, is_some, IsTrue}
use Rattle.std.proofs.Common.{◌≡◌, refl, ap, arith}
use Rattle.std.proofs.lemmas.List.Elements.{Contains-append_left, Contains-append_right}
use Rattle.std.proofs.lemmas.Option.{none-some, same_Some}
use Rattle.c_syntax.specs.declared.token.Span.{Span}
use Rattle.c_syntax.specs.declared.tree.Condition.TheVariants as conditions
use Rattle.c_syntax.specs.Expressions.{Exp}
use Rattle.c_syntax.specs.Ghosts as g
use Rattle.c_syntax.specs.Ghosts.{GhostRhs, GStm, GStms}
use Rattle.c_syntax.specs.Statements as st
use Rattle.c_syntax.specs.Statements.{Inv, Stm, Stms}
use Rattle.c_syntax.specs.Items as i
use Rattle.c_syntax.specs.Items.{Member, Written, Clause, StructTree, Item}
use Rattle.object_types.specs.Sets.{every}
use Rattle.typing_spec.specs.Declarations.{structs, is_approval}
use Rattle.typing_spec.specs.Contexts as texts
use Rattle.typing_spec.specs.Contexts.{Text, Variable, Context, ghost, with_text, inside_atomic, inside_unwrapping}
use Rattle.typing_spec.specs.Types.{kind_of}
use Rattle.typing_spec.specs.SpecWords.{is_type_invariant, is_ensures}
use Rattle.typing_spec.specs.Pieces as pieces
use Rattle.typing_spec.specs.Pieces.{Piece, Statement, GhostStatement, NewClaim, WritesItem, expression, expressions, if_some, ghost_right, claim_property, assignment, following, behind_ghost, in_struct, in_condition, member, struct_name}
use Rattle.typing_spec.specs.First.{IsWellTyped}
use Rattle.typing_spec.specs.TypeLaws.{Where, Typed, Quiet}
use Rattle.typed_program.specs.Trees.{Spec, FunctionInfo}
use Rattle.typed_program.specs.Numbers.{Around, struct_number, declared_type}
use Rattle.typed_program.specs.Annotations.{formulas, spec, property}
use Rattle.typed_program.specs.Sites.{Occurrence, Says, Makes, invariants_say, made, ghost_occurrences, ghosts_occurrences, occurrences, all_occurrences}
use Rattle.typed_program.specs.Statements.{known_behind, known_behind_ghost}
use Rattle.typed_program.specs.Variables.{ghost_declared, ghosts_declared, declared, all_declared}
use Rattle.typed_program.specs.Tables.{item_of, in_writes, in_clause, listed_items, around_struct, invariants_of, each_invariant, clause_occurrences, program}
use Rattle.typed_laws.specs.Fits.{Names, at_return, of_struct, meaning}
use Rattle.typed_laws.proofs.Basics.{and_both, every_append, never}
use Rattle.typed_laws.proofs.Quiet.{quiet_left, quiet_right, quiet_rest}
use Rattle.typed_laws.proofs.Ghosts.{alone}
use Rattle.typed_laws.proofs.Facts.{Tables, InCode, Numbered}
use Rattle.typed_laws.proofs.Entry.{struct_known}
use Rattle.typed_laws.proofs.SpecSites.{code_behind, code_behind_ghost, scope_behind, scope_behind_ghost}
use Rattle.typed_laws.proofs.SpecGoals.{InSpec}
use Rattle.typed_laws.proofs.Numbered.{plain, neat}
use Rattle.typed_laws.proofs.FitShapes.{quiet_fit, neat_spec}
use Rattle.typed_laws.proofs.FitClauses.{spec_of_code, in_other_text, spec_of_return}
use Rattle.typed_laws.proofs.FitSites.{property_sound}
use Rattle.typed_laws.proofs.Meanings.{meaning_law}

-- ---- what is said

-- it is neat and stands for something
abbrev pub is_meant : List Item → Names → Spec → Bool
is_meant items n w = neat w && is_some (meaning (program items) n w)

-- and each conjunct of a claim's property is plain and does
abbrev pub occurrence_meant : List Item → Names → Occurrence → Bool
occurrence_meant items n (Says w) = is_meant items n w
occurrence_meant items n (Makes x) = every (λ w. plain w && is_some (meaning (program items) n w)) x.property

module _ (items : List Item) (all : Tables items (program items)) where
  spec_meant : (c : Context) (a : Around) (n : Names) → InSpec items c a n → (m : ℕ) (x : Exp) → Quiet (expression c x) → IsTrue (is_meant items n (spec a m x))
  spec_meant c a n here m x quiet =
      and_both (neat (spec a m x)) (is_some (meaning (program items) n (spec a m x))) (neat_spec a m x (quiet_fit c x quiet)) (ap is_some (meaning_law items (program items) all c a n here m x quiet).4)

  -- ---- code

  module _ (f : FunctionInfo) where
    abbrev pub code_meant : Occurrence → Bool
    code_meant = occurrence_meant items (at_return f)

    said_meant : (x : Text) → is_type_invariant x ≡ false → is_ensures x ≡ false → (a : Around) (c : Context) → InCode items f a → c.scope ≡ a.context.scope → (m : ℕ) (y : Exp) → Quiet (expression (with_text x c) y) → IsTrue (is_meant items (at_return f) (spec a m y))
    said_meant x no_invariant no_return a c i same m y quiet = spec_meant (with_text x c) a (at_return f) (spec_of_code items f a i (with_text x c) same no_invariant no_return f.value) m y quiet

    made_meant : (a : Around) (c : Context) → InCode items f a → c.scope ≡ a.context.scope → (k line : ℕ) (r : GhostRhs) → Quiet (ghost_right c r) → IsTrue (every code_meant (made a k line (Some r)))
    made_meant a c i same k line (g.Value y) quiet = refl
    made_meant a c i same k line (g.MakeClaim p xs y) quiet =
        alone (every (λ w. plain w && is_some (meaning (program items) (at_return f) w)) (property a 0 y))
        (property_sound meaning_law items all a (at_return f) (claim_property xs c) (spec_of_code items f a i (claim_property xs c) same refl refl f.value) refl 0 y
        (quiet_right (expressions c xs) (expression (claim_property xs c) y) (quiet_rest (NewClaim c xs y) (expressions c xs ++ expression (claim_property xs c) y) quiet)))

    maybe_meant : (a : Around) (c : Context) → InCode items f a → c.scope ≡ a.context.scope → (k line : ℕ) (r : Option GhostRhs) → Quiet (if_some (ghost_right c) r) → IsTrue (every code_meant (made a k line r))
    maybe_meant a c i same k line None quiet = refl
    maybe_meant a c i same k line (Some r) quiet = made_meant a c i same k line r quiet

    mutual
      ghost_meant : (a : Around) (c : Context) → InCode items f a → c.scope ≡ a.context.scope → (k : ℕ) (x : GStm) → Quiet (pieces.in_ghost c x) → ((v : Variable) → Contains (ghost_declared x) v → Numbered items f a.names v) → IsTrue (every code_meant (ghost_occurrences a k x))
      ghost_meant a c i same k (g.Block p ss) quiet given = ghosts_meant a c i same k ss quiet given
      ghost_meant a c i same k (g.Declare p ty x r) quiet given = maybe_meant a c i same k p.line r (quiet_right (struct_name c.scope.items ty) (if_some (ghost_right c) r) quiet)
      ghost_meant a c i same k (g.Assign p x q r) quiet given = made_meant a c i same k p.line r (quiet_right (expression c x) (ghost_right c r) quiet)
      ghost_meant a c i same k (g.If p y u) quiet given = ghost_meant a c i same k u (quiet_rest (GhostStatement c u) (pieces.in_ghost c u) (quiet_right (expression c y) (GhostStatement c u ∷ pieces.in_ghost c u) quiet)) given
      ghost_meant a c i same k (g.IfElse p y u w) quiet given =
          let first = GhostStatement c u ∷ pieces.in_ghost c u in
          let second = GhostStatement c w ∷ pieces.in_ghost c w in
          let inner = quiet_right (expression c y) (first ++ second) quiet in
          every_append code_meant (ghost_occurrences a k u) (ghost_occurrences a k w)
          (ghost_meant a c i same k u (quiet_rest (GhostStatement c u) (pieces.in_ghost c u) (quiet_left first second inner)) (λ v b. given v (Contains-append_left (ghost_declared u) (ghost_declared w) v b)))
          (ghost_meant a c i same k w (quiet_rest (GhostStatement c w) (pieces.in_ghost c w) (quiet_right first second inner)) (λ v b. given v (Contains-append_right (ghost_declared u) (ghost_declared w) v b)))
      ghost_meant a c i same k _ quiet given = refl

      ghosts_meant : (a : Around) (c : Context) → InCode items f a → c.scope ≡ a.context.scope → (k : ℕ) (xs : GStms) → Quiet (pieces.in_ghosts c xs) → ((v : Variable) → Contains (ghosts_declared xs) v → Numbered items f a.names v) → IsTrue (every code_meant (ghosts_occurrences a k xs))
      ghosts_meant a c i same k g.Empty quiet given = refl
      ghosts_meant a c i same k (g.More u us) quiet given =
          let first = GhostStatement c u ∷ pieces.in_ghost c u in
          let rest = pieces.in_ghosts (behind_ghost c u) us in
          let own = quiet_rest (GhostStatement c u) (pieces.in_ghost c u) (quiet_left first rest quiet) in
          let mine = λ (v : Variable) (d : Contains (ghost_declared u) v). given v (Contains-append_left (ghost_declared u) (ghosts_declared us) v d) in
          every_append code_meant (ghost_occurrences a k u) (ghosts_occurrences (known_behind_ghost a u) k us) (ghost_meant a c i same k u own mine)
          (ghosts_meant (known_behind_ghost a u) (behind_ghost c u) (code_behind_ghost items f a c i same u own mine) (scope_behind_ghost a c same u) k us (quiet_right first rest quiet) (λ v d. given v (Contains-append_right (ghost_declared u) (ghosts_declared us) v d)))

    invariants_meant : (a : Around) (c : Context) → InCode items f a → c.scope ≡ a.context.scope → (is : List Inv) → Quiet (pieces.invariants texts.LoopInvariant c is) → IsTrue (every code_meant (invariants_say a is))
    invariants_meant a c i same [] quiet = refl
    invariants_meant a c i same (x ∷ xs) quiet =
        let own = expression (with_text texts.LoopInvariant c) x.property in
        let rest = pieces.invariants texts.LoopInvariant c xs in
        and_both (is_meant items (at_return f) (spec a 0 x.property)) (every code_meant (invariants_say a xs)) (said_meant texts.LoopInvariant refl refl a c i same 0 x.property (quiet_left own rest quiet)) (invariants_meant a c i same xs (quiet_right own rest quiet))

    mutual
      stmt_meant : (a : Around) (c : Context) → InCode items f a → c.scope ≡ a.context.scope → (k : ℕ) (x : Stm) → Quiet (pieces.in_statement c x) → ((v : Variable) → Contains (declared x) v → Numbered items f a.names v) → IsTrue (every code_meant (occurrences a k x))
      stmt_meant a c i same k (st.Block p ss q) quiet given = rows_meant a c i same k ss quiet given
      stmt_meant a c i same k (st.If p y u) quiet given = stmt_meant a c i same k u (quiet_rest (Statement c u) (pieces.in_statement c u) (quiet_right (expression c y) (Statement c u ∷ pieces.in_statement c u) quiet)) given
      stmt_meant a c i same k (st.IfElse p y u w) quiet given =
          let first = Statement c u ∷ pieces.in_statement c u in
          let second = Statement c w ∷ pieces.in_statement c w in
          let inner = quiet_right (expression c y) (first ++ second) quiet in
          every_append code_meant (occurrences a k u) (occurrences a k w)
          (stmt_meant a c i same k u (quiet_rest (Statement c u) (pieces.in_statement c u) (quiet_left first second inner)) (λ v b. given v (Contains-append_left (declared u) (declared w) v b)))
          (stmt_meant a c i same k w (quiet_rest (Statement c w) (pieces.in_statement c w) (quiet_right first second inner)) (λ v b. given v (Contains-append_right (declared u) (declared w) v b)))
      stmt_meant a c i same k (st.While p y is u) quiet given =
          let own = Statement c u ∷ pieces.in_statement c u in
          let said = pieces.invariants texts.LoopInvariant c is in
          let inner = quiet_right (expression c y) (said ++ own) quiet in
          every_append code_meant (invariants_say a is) (occurrences a k u) (invariants_meant a c i same is (quiet_left said own inner)) (stmt_meant a c i same k u (quiet_rest (Statement c u) (pieces.in_statement c u) (quiet_right said own inner)) given)
      stmt_meant a c i same k (st.Do p is u q y) quiet given =
          let own = Statement c u ∷ pieces.in_statement c u in
          let said = pieces.invariants texts.LoopInvariant c is in
          every_append code_meant (invariants_say a is) (occurrences a k u) (invariants_meant a c i same is (quiet_left said (own ++ expression c y) quiet))
          (stmt_meant a c i same k u (quiet_rest (Statement c u) (pieces.in_statement c u) (quiet_left own (expression c y) (quiet_right said (own ++ expression c y) quiet))) given)
      stmt_meant a c i same k (st.For p b y d is u) quiet given =
          let own = Statement c u ∷ pieces.in_statement c u in
          let said = pieces.invariants texts.LoopInvariant c is in
          let before = if_some (assignment c) b in
          let each = if_some (assignment c) d in
          let inner = quiet_right each (said ++ own) (quiet_right (expression c y) (each ++ (said ++ own)) (quiet_right before (expression c y ++ (each ++ (said ++ own))) quiet)) in
          every_append code_meant (invariants_say a is) (occurrences a k u) (invariants_meant a c i same is (quiet_left said own inner)) (stmt_meant a c i same k u (quiet_rest (Statement c u) (pieces.in_statement c u) (quiet_right said own inner)) given)
      stmt_meant a c i same k (st.Assert p x) quiet given = alone (is_meant items (at_return f) (spec a 0 x)) (said_meant texts.Assert refl refl a c i same 0 x quiet)
      stmt_meant a c i same k (st.Ghost p x) quiet given = ghost_meant a (ghost c) i same k x (quiet_rest (GhostStatement (ghost c) x) (pieces.in_ghost (ghost c) x) quiet) given
      stmt_meant a c i same k (st.Unwrapping p x ss q) quiet given = rows_meant a (inside_unwrapping c) i same k ss (quiet_right (expression (ghost c) x) (pieces.in_statements (inside_unwrapping c) ss) quiet) given
      stmt_meant a c i same k (st.Atomic p xs ss q) quiet given = rows_meant a (inside_atomic c) i same k ss (quiet_right (expressions (ghost c) xs) (pieces.in_statements (inside_atomic c) ss) quiet) given
      stmt_meant a c i same k _ quiet given = refl

      pub rows_meant : (a : Around) (c : Context) → InCode items f a → c.scope ≡ a.context.scope → (k : ℕ) (xs : Stms) → Quiet (pieces.in_statements c xs) → ((v : Variable) → Contains (all_declared xs) v → Numbered items f a.names v) → IsTrue (every code_meant (all_occurrences a k xs))
      rows_meant a c i same k st.Empty quiet given = refl
      rows_meant a c i same k (st.More u us) quiet given =
          let first = Statement c u ∷ pieces.in_statement c u in
          let rest = pieces.in_statements (following c u) us in
          let own = quiet_rest (Statement c u) (pieces.in_statement c u) (quiet_left first rest quiet) in
          let mine = λ (v : Variable) (d : Contains (declared u) v). given v (Contains-append_left (declared u) (all_declared us) v d) in
          every_append code_meant (occurrences a k u) (all_occurrences (known_behind a u) k us) (stmt_meant a c i same k u own mine)
          (rows_meant (known_behind a u) (following c u) (code_behind items f a c i same u own mine) (scope_behind a c same u) k us (quiet_right first rest quiet) (λ v d. given v (Contains-append_right (declared u) (all_declared us) v d)))

    -- ---- contracts

    module _ (a : Around) (here : InCode items f a) (value : f.value ≡ option_map (declared_type items) a.context.value) (typed : Where (λ ty. Typed items (kind_of items ty)) a.context.value) where
      abbrev listed : Context
      listed = with_text texts.Writes a.context

      written_meant : (n : ℕ) (x : Written) → Quiet (pieces.written listed x) → IsTrue (is_meant items (at_return f) (spec (in_writes a) n (item_of x)))
      written_meant n (i.Thing x) quiet = said_meant texts.Writes refl refl (in_writes a) a.context (in_other_text items f a here texts.Writes) refl n x quiet
      written_meant n (i.SpanOf p x) quiet = said_meant texts.Writes refl refl (in_writes a) a.context (in_other_text items f a here texts.Writes) refl n x quiet
      written_meant n (i.ExtentOf p x) quiet = said_meant texts.Writes refl refl (in_writes a) a.context (in_other_text items f a here texts.Writes) refl n x quiet

      listed_meant : (n : ℕ) (xs : List Written) → Quiet (flat_map (λ y. WritesItem listed y ∷ pieces.written listed y) xs) → IsTrue (every code_meant (map Says (listed_items (in_writes a) n xs)))
      listed_meant n [] quiet = refl
      listed_meant n (x ∷ xs) quiet =
          let own = WritesItem listed x ∷ pieces.written listed x in
          let rest = flat_map (λ y. WritesItem listed y ∷ pieces.written listed y) xs in
          and_both (is_meant items (at_return f) (spec (in_writes a) n (item_of x))) (every code_meant (map Says (listed_items (in_writes a) (n + formulas (item_of x)) xs)))
          (written_meant n x (quiet_rest (WritesItem listed x) (pieces.written listed x) (quiet_left own rest quiet))) (listed_meant (n + formulas (item_of x)) xs (quiet_right own rest quiet))

      clause_meant : (x : Clause) → Quiet (pieces.clause a.context x) → IsTrue (every code_meant (clause_occurrences a x))
      clause_meant (i.Holds p conditions.Requires x) quiet = alone (is_meant items (at_return f) (spec (in_clause conditions.Requires a) 0 x)) (said_meant texts.Requires refl refl (in_clause conditions.Requires a) a.context (in_other_text items f a here texts.Requires) refl 0 x quiet)
      clause_meant (i.Holds p conditions.Maintains x) quiet = alone (is_meant items (at_return f) (spec (in_clause conditions.Maintains a) 0 x)) (said_meant texts.Maintains refl refl (in_clause conditions.Maintains a) a.context (in_other_text items f a here texts.Maintains) refl 0 x quiet)
      clause_meant (i.Holds p conditions.Ensures x) quiet = alone (is_meant items (at_return f) (spec (in_clause conditions.Ensures a) 0 x)) (spec_meant (in_condition conditions.Ensures a.context) (in_clause conditions.Ensures a) (at_return f) (spec_of_return items f a here value typed) 0 x quiet)
      clause_meant (i.Writes p xs) quiet = listed_meant 0 xs quiet

      pub clauses_meant : (xs : List Clause) → Quiet (flat_map (pieces.clause a.context) xs) → IsTrue (every code_meant (flat_map (clause_occurrences a) xs))
      clauses_meant [] quiet = refl
      clauses_meant (x ∷ xs) quiet =
          let own = pieces.clause a.context x in
          let rest = flat_map (pieces.clause a.context) xs in
          every_append code_meant (clause_occurrences a x) (flat_map (clause_occurrences a) xs) (clause_meant x (quiet_left own rest quiet)) (clauses_meant xs (quiet_right own rest quiet))

  -- ---- structs

  module _ (end : Span) (typed : IsWellTyped items end) (u : StructTree) (there : Contains (structs items) u) where
    abbrev a : Around
    a = around_struct items u

    abbrev pub struct_names : Names
    struct_names = of_struct (struct_number items u.name)

    abbrev struct_meant : Occurrence → Bool
    struct_meant = occurrence_meant items struct_names

    here : InSpec items (in_struct items u) a struct_names
    here = record {
      items_are = refl;
      same = refl;
      known = struct_known items end typed u there;
      placed = record { this_given = λ g. refl; result_given = λ g. never g };
      many = refl;
      bound = λ j v below e. absurd (omega (arith, below));
      refer = λ j ty e. absurd (none-some ty e);
      free = λ j v above e. absurd (none-some v e);
      this = λ s e. ap (λ z. Some (struct_number items z.name)) (same_Some u s e);
      result = λ ty e. absurd (none-some ty e);
    }

    abbrev says_from : ℕ → List Inv → List Occurrence
    says_from k xs = map Says (each_invariant (λ j y. spec a j y ∷ []) k xs)

    pub members_meant : (m : ℕ) (ms : List Member) → Quiet (flat_map (member items u) ms) → IsTrue (every struct_meant (says_from m (invariants_of ms)))
    members_meant m [] quiet = refl
    members_meant m (i.Field x ∷ ms) quiet = members_meant m ms (quiet_right (member items u (i.Field x)) (flat_map (member items u) ms) quiet)
    members_meant m (i.Invariant x ∷ ms) quiet = by (is_approval x.property) (λ k z. members_meant k ms z) quiet
      where
        own : List Piece
        own = expression (in_struct items u) x.property

        rest : List Piece
        rest = flat_map (member items u) ms

        by : (b : Bool) → ((k : ℕ) → Quiet rest → IsTrue (every struct_meant (says_from k (invariants_of ms)))) → Quiet ((if b then [] else own) ++ rest) → IsTrue (every struct_meant (says_from m (if b then invariants_of ms else x ∷ invariants_of ms)))
        by true next z = next m z
        by false next z =
            and_both (is_meant items struct_names (spec a m x.property)) (every struct_meant (says_from (m + formulas x.property) (invariants_of ms)))
            (spec_meant (in_struct items u) a struct_names here m x.property (quiet_left own rest z)) (next (m + formulas x.property) (quiet_right own rest z))
