-- Programs that meet the premises of the laws: by computation, table by table.
use Rattle.std.proofs.Common.{◌≡◌, ℕ, zero, suc, ◌+◌, Bool, true, false, ◌==◌, refl, subst, List, [], ◌∷◌, Some, slice_get, nat_le, nat_lt, if◌then◌else◌, arith}
use Rattle.std.proofs.lemmas.Bool.{le-ltb}
use Rattle.object_types.specs.Sets.{every}
use Rattle.method.specs.declared.program.Item.{Item}
use Rattle.method.specs.declared.program.Item.TheVariants.{Struct, Function}
use Rattle.method.specs.declared.program.VariableInfo.{VariableInfo}
use Rattle.method.specs.declared.program.FunctionInfo.{FunctionInfo}
use Rattle.method.specs.declared.program.StructInfo.{StructInfo}
use Rattle.method.specs.declared.program.Program.{Program}
use Rattle.method.specs.Tables.{is_struct, is_field_of}
use Rattle.method.specs.Trace.{Memory, vec}
use Rattle.method.specs.declared.program.FieldInfo.{FieldInfo}
use Rattle.method.specs.declared.program.DeclaredType.TheVariants.{Integer}
use Rattle.int_ranges.specs.declared.ctype.CType.TheVariants.{Int as SignedInt}
use Rattle.method.specs.Scopes.{Scoped, body_in, contract_in}
use Rattle.method.specs.Typing.{stmt_ok, of_content, is_field_range, is_type, returns_value, is_item, times, WellTyped}
use Rattle.machine_laws.proofs.Typed.{ne_eqb}
use Rattle.conditions.specs.Quantified.{QuantifiedFormula, specs_quantifiers, struct_words}
use Rattle.conditions.specs.Rows.{store_program, store_function}
use Rattle.condition_walks.specs.Conversions.{stmt_conversions_received, ConversionsAreReceived}
use Rattle.condition_meaning.specs.Annotated.{Each, IsListed, is_empty}
use Rattle.condition_meaning.proofs.Faithful.{at_every}
use Rattle.safe_counter.specs.Shared.{program, worker, main}
use Rattle.safe_counter.proofs.Lists.{of_one, of_two, of_struct, of_field}
use Rattle.safe_counter.proofs.Typed.{shared_typed}
use Rattle.conditions_law.specs.Texts.{TextFits}
use Rattle.conditions_law.specs.Samples.{SharedIsVerifiable, StoreIsVerifiable}

none : (a b : Bool) → a ≡ false → b ≡ false → (if a then 1 else 0) + 0 ≡ (if b then 1 else 0)
none true b e f = absurd (cc)
none false true e f = absurd (cc)
none false false e f = refl

none_behind : (a b : Bool) → a ≡ false → b ≡ false → 0 + ((if a then 1 else 0) + 0) ≡ (if b then 1 else 0)
none_behind true b e f = absurd (cc)
none_behind false true e f = absurd (cc)
none_behind false false e f = refl

-- Texts, by tests.

received_by_test : (p : Program) → every (λ (f : FunctionInfo). every stmt_conversions_received f.body.items) p.functions.items ≡ true → ConversionsAreReceived p
received_by_test p h = record { bodies = λ k f is. at_every (λ (g : FunctionInfo). every stmt_conversions_received g.body.items) p.functions.items h k f is }

-- where what names members quantifies over nothing
none_by_test : (p : Program) → every (λ (s : StructInfo). is_empty (specs_quantifiers p s.mine.items struct_words)) p.structs.items ≡ true
    → (n : ℕ) (s : StructInfo) → slice_get p.structs.items n ≡ Some s → Each p (IsListed p) (specs_quantifiers p s.mine.items struct_words)
none_by_test p h n s is = nothing (specs_quantifiers p s.mine.items struct_words) (at_every (λ (c : StructInfo). is_empty (specs_quantifiers p c.mine.items struct_words)) p.structs.items h n s is)
  where
    nothing : (qs : List QuantifiedFormula) → is_empty qs ≡ true → Each p (IsListed p) qs
    nothing [] k = tt
    nothing (q ∷ qs) k = absurd (cc)

module _ (m : Memory) where
  -- The shared counter.

  shared_scoped : Scoped (program m)
  shared_scoped = record {
    bodies = of_two (worker m) (main m) (λ k f. body_in (program m) f [] f.body.items ≡ true) refl refl;
    contracts = of_two (worker m) (main m) (λ k f. contract_in (program m) f ≡ true) refl refl;
  }

  shared_fits : TextFits (program m)
  shared_fits = record {
    annotated = record { numbered = (refl, tt); structs = refl; shapes = refl; functions = refl };
    members = refl;
    members_numbered = none_by_test (program m) refl;
    conversions = received_by_test (program m) refl;
  }

  -- A function that stores into a field.

  store_once : (i : Item) → times i (store_program m).items.items ≡ (if is_item (store_program m) i then 1 else 0)
  store_once (Struct zero) = refl
  store_once (Struct (suc n)) = none (suc n == 0) (nat_lt (suc n) 1) (ne_eqb (suc n) 0 (λ e. absurd (omega (arith, e)))) (le-ltb (suc n) 1 (omega arith))
  store_once (Function zero) = refl
  store_once (Function (suc n)) = none_behind (suc n == 0) (nat_lt (suc n) 1) (ne_eqb (suc n) 0 (λ e. absurd (omega (arith, e)))) (le-ltb (suc n) 1 (omega arith))

  store_typed : WellTyped (store_program m)
  store_typed =
      let p = store_program m in
      record {
        main = λ k e. subst (λ j. nat_lt j 1 ≡ true) e refl;
        parameters = of_one (store_function m) (λ k f. nat_le f.parameters _ ≡ true) refl;
        bodies = of_one (store_function m) (λ k f. every (stmt_ok p f k) f.body.items ≡ true) refl;
        returns = of_one (store_function m) (λ k f. returns_value f.result f.body.items ≡ true) refl;
        variable_types = of_one (store_function m) (λ k f. every (λ (v : VariableInfo). is_type p v.ty) f.variables.items ≡ true) refl;
        result_types = λ k f ty e r. of_one (store_function m) (λ k f. f.result ≡ Some ty → is_type p ty ≡ true) (λ z. absurd (cc)) k f e r;
        fields = λ ty f s e. of_struct struct (λ t u. is_field_of p f t ≡ is_field_range p t f u) (of_field field refl f) ty s e;
        field_types = of_one field (λ f i. is_type p i.ty ≡ true) refl;
        field_structs = of_one field (λ f i. is_struct p i.of ≡ true) refl;
        invariants = of_struct struct (λ ty s. (every of_content s.invariants.items ≡ true) × (every of_content s.mine.items ≡ true)) (refl, refl);
        sites = λ n s e. absurd (cc);
        sites_stand = λ n s e. absurd (cc);
        items = store_once;
      }
    where
      field : FieldInfo
      field = record { name = m.text; of = 3; ty = Integer SignedInt; is_volatile = false; is_ghost = false; is_approved = false }

      struct : StructInfo
      struct = record { name = m.text; line = 1; is_claimable = false; has_dynamic_owns = false; has_volatile_owns = false; first_field = 0; fields = 1; has_approval = false; invariants = vec m []; mine = vec m [] }

  store_scoped : Scoped (store_program m)
  store_scoped = record {
    bodies = of_one (store_function m) (λ k f. body_in (store_program m) f [] f.body.items ≡ true) refl;
    contracts = of_one (store_function m) (λ k f. contract_in (store_program m) f ≡ true) refl;
  }

  store_fits : TextFits (store_program m)
  store_fits = record {
    annotated = record { numbered = tt; structs = refl; shapes = refl; functions = refl };
    members = refl;
    members_numbered = none_by_test (store_program m) refl;
    conversions = received_by_test (store_program m) refl;
  }

pub shared_is_verifiable : SharedIsVerifiable
shared_is_verifiable m = (shared_typed m, shared_scoped m, shared_fits m)

pub store_is_verifiable : StoreIsVerifiable
store_is_verifiable m = (store_typed m, store_scoped m, store_fits m)
