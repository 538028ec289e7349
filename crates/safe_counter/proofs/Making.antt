-- The block in which main reads the number and makes a claim of it.
use Rattle.std.proofs.Common.{◌≡◌, ℕ, ◌+◌, true, false, cond, not, ◌==◌, ◌&&◌, ◌||◌, refl, sym, ap, ◌∙◌, subst, ℤ, pos, negsuc, ◌+ℤ◌, int_le, List, [], ◌∷◌}
use Rattle.std.proofs.lemmas.Bool.{eq-eqb}
use Rattle.object_types.specs.declared.references.Ref.{Ref}
use Rattle.object_types.specs.declared.records.Mode.TheVariants.{Absent}
use Rattle.object_types.specs.declared.values.Value.{Value}
use Rattle.object_types.specs.declared.values.Value.TheVariants.{Int, Ref as Refers}
use Rattle.method.specs.declared.program.CheckKind.TheVariants.{Read, Invariant}
use Rattle.method.specs.declared.program.Expr.TheVariants.{Variable, Field'}
use Rattle.method.specs.declared.program.RightSide.TheVariants.{Compute}
use Rattle.method.specs.declared.program.Inner.{Inner}
use Rattle.method.specs.declared.program.Inner.TheVariants.{Inside}
use Rattle.method.specs.declared.program.Listed.{Listed}
use Rattle.method.specs.declared.program.Program.{Program}
use Rattle.object_types.specs.References.{is_claim, same_ref}
use Rattle.object_types.specs.Values.{int, same_int, same_value}
use Rattle.object_types.specs.Sets.{is_in, every}
use Rattle.object_types.specs.Shapes.{has_entry, same_entry}
use Rattle.object_types.specs.Heap.{Heap, Record, closed_in, is_closed, mutable, wrapped, put, count_more}
use Rattle.method.specs.Tables.{read, struct_of, is_claimable}
use Rattle.method.specs.SpecValue.{entry_holds}
use Rattle.method.specs.Invariants.{inv_holds, struct_holds, inv_scene, claim_holds}
use Rattle.method.specs.Expressions.{Gave, Gives, Context, eval, readable, inv_test, may_write}
use Rattle.method.specs.Actions.{InLocal, Supply, Chosen, Progress, Tally, no_tally, spot, starting, new_claim, right_side, store, run_simple, inner_spot, may_count, no_choices, act}
use Rattle.method.specs.SafeRuns.{Goes}
use Rattle.method.specs.Trace.{Memory, box}
use Rattle.method.proofs.Global.{and_both, both_and, same_ref_self}
use Rattle.machine_laws.proofs.Typed.{or_left, or_right}
use Rattle.machine_laws.proofs.Heaps.{in_none, in_one_self, put_same, put_other, differ_from, same_ref_from, wrapped_parts}
use Rattle.safe_counter.specs.Shared.{program, site, claims, reads_number, makes_claim}
use Rattle.safe_counter.proofs.Passing.{Passing, pass_then, pass_after, then_gives, check_gives, pass_gives, pass_fitting, pass_spec, pass_specs}
use Rattle.safe_counter.proofs.Types.{inv_by, same_number}
use Rattle.safe_counter.proofs.Blocks.{atomic_passes, new_claim_passes}
use Rattle.safe_counter.proofs.Claims.{counting, IsHeld, says_least, least_is}

same_int_self : (z : ℤ) → same_int z z ≡ true
same_int_self (pos n) = eq-eqb n n refl
same_int_self (negsuc n) = eq-eqb n n refl

same_value_self : (v : Value) → same_value v v ≡ true
same_value_self (Int z) = same_int_self z
same_value_self (Refers r) = same_ref_self r

module _ (m : Memory) where
  abbrev p : Program
  p = program m

  -- a claim has its invariant where its conjuncts hold
  claim_inv : (c : Ref) (h k : Heap) → is_claim c ≡ true → every (entry_holds p k) (k.get c).shapes ≡ true → inv_holds p c h k ≡ true
  unfolding inv_holds
  claim_inv c h k is e = ap (λ b. cond b (not (closed_in k c) || claim_holds p c k) (struct_holds p (struct_of p c.ty) (inv_scene c h k))) is ∙ or_right (not (closed_in k c)) (claim_holds p c k) e

  -- the heap with the claim c on r
  abbrev pub claimed_heap : Ref → Heap → Ref → Value → Ref → Heap
  claimed_heap me j r num c = count_more (pos 1) (r ∷ []) (put j c (new_claim me (r ∷ []) (says_least m r num ∷ [])))

  module _ (me : Ref) (j : Heap) (r c : Ref) (num : Value) (rt : r.ty ≡ 3) (ct : c.ty ≡ 2) where
    abbrev made : Heap
    made = put j c (new_claim me (r ∷ []) (says_least m r num ∷ []))

    abbrev k1 : Heap
    k1 = claimed_heap me j r num c

    apart : same_ref r c ≡ false
    apart = differ_from r c (λ e. absurd (cc (sym rt ∙ (ap (λ (q : Ref). q.ty) e ∙ ct))))

    apart_too : same_ref c r ≡ false
    apart_too = differ_from c r (λ e. absurd (cc (sym rt ∙ (ap (λ (q : Ref). q.ty) (sym e) ∙ ct))))

    object_there : k1.get r ≡ record (made.get r) { count = (made.get r).count +ℤ pos 1 }
    object_there = put_same made r (record (made.get r) { count = (made.get r).count +ℤ pos 1 })

    object_was : made.get r ≡ j.get r
    object_was = put_other j c (new_claim me (r ∷ []) (says_least m r num ∷ [])) r apart

    claim_there : k1.get c ≡ new_claim me (r ∷ []) (says_least m r num ∷ [])
    claim_there = put_other made r (record (made.get r) { count = (made.get r).count +ℤ pos 1 }) c apart_too ∙ put_same j c (new_claim me (r ∷ []) (says_least m r num ∷ []))

    pub object_owner : (k1.get r).owner ≡ (j.get r).owner
    object_owner = ap (λ (q : Record). q.owner) object_there ∙ ap (λ (q : Record). q.owner) object_was

    pub object_closed : closed_in k1 r ≡ closed_in j r
    object_closed = ap (λ (q : Record). is_closed q.mode) object_there ∙ ap (λ (q : Record). is_closed q.mode) object_was

    number_same : (k1.get r).fields 0 ≡ (j.get r).fields 0
    number_same = ap (λ (q : Record). q.fields 0) object_there ∙ ap (λ (q : Record). q.fields 0) object_was

    pub held : IsHeld m me k1 c r num
    held = record {
      wrapped = both_and (closed_in k1 c) (same_ref (k1.get c).owner me) (ap (λ (q : Record). is_closed q.mode) claim_there)
          (same_ref_from (k1.get c).owner me (ap (λ (q : Record). q.owner) claim_there));
      claim = ap (λ n. n == 2) ct;
      listed = ap (λ (q : Record). is_in r q.listed) claim_there ∙ in_one_self r;
      shapes = ap (λ (q : Record). has_entry (says_least m r num) q.shapes) claim_there ∙ or_left (same_entry (says_least m r num) (says_least m r num)) false
          (both_and (same_ref r r) (same_value num num && true) (same_ref_self r) (both_and (same_value num num) true (same_value_self num) refl));
      ty = rt;
    }

    object_inv : inv_holds p r j k1 ≡ true
    object_inv = inv_by p (counting m) r rt j k1 (same_number p (counting m) r j k1 number_same)

    its_inv : num ≡ read p j r 0 → inv_holds p c j k1 ≡ true
    its_inv e = claim_inv c j k1 (ap (λ n. n == 2) ct) (ap (λ (q : Record). every (entry_holds p k1) q.shapes) claim_there ∙ both_and (entry_holds p k1 (says_least m r num)) true
        (least_is m k1 r num ∙ subst (λ (v : Value). int_le (int v) (int (read p k1 r 0)) ≡ true) (sym e) (same_number p (counting m) r j k1 number_same)) refl)

  reads_gives : (x : Context) (r : Ref) (i : ℕ) (t : Tally) (k : Heap) (v w : Value) (s : Supply) →
      (run_simple p (inner_spot p x (r ∷ []) 12) (reads_number m) i t (starting k (v ∷ w ∷ Refers r ∷ []) s)).end ≡ Gave (starting k (read p k r 0 ∷ w ∷ Refers r ∷ []) s)
  reads_gives x r i t k v w s =
      let at_ = inner_spot p x (r ∷ []) 12 in
      let l : List Value = v ∷ w ∷ Refers r ∷ [] in
      let g = starting k l s in
      let num = read p k r 0 in
      let e = Field' (box m) (Variable 2) 0 in
      then_gives (right_side p at_ (Compute e) (InLocal 0) (i + 0) t g) (λ u. store p at_ (InLocal 0) u.value (i + 0 + 1) u.starting) (record { value = num; starting = g })
      (starting k (num ∷ w ∷ Refers r ∷ []) s)
      (then_gives (eval p at_ k l e (i + 0)) (λ u. Gives (record { value = u; starting = g })) num (record { value = num; starting = g })
      (check_gives at_ (readable p at_ k r 0) (i + 0 + 0) Read (Gives num) num (or_right (mutable x.me k r) (is_in r (r ∷ [])) (in_one_self r)) refl) refl) refl

  pub claims_passes : (label : ℕ) (rest : Heap → List Value → Type 0) (x : Context) (choices : List Value) (news : List Ref) (n : ℕ) (k : Heap) (v w : Value) (r : Ref) → r.ty ≡ 3 →
      wrapped x.me k r ≡ true → may_write (spot x [] 12) r ≡ true →
      ((c : Ref) → c.ty ≡ 2 → (k.get c).mode ≡ Absent → rest (claimed_heap x.me k r (read p k r 0) c) (read p k r 0 ∷ Refers c ∷ Refers r ∷ [])) → Passing label (Goes rest)
      (act p x choices (Chosen news) 12 (claims m) n k (v ∷ w ∷ Refers r ∷ []))
  unfolding act
  claims_passes label rest x choices news n k v w r rt own may go =
      let at_ = spot x choices 12 in
      let within = inner_spot p x (r ∷ []) 13 in
      let num = read p k r 0 in
      let l : List Value = num ∷ w ∷ Refers r ∷ [] in
      let closed = (wrapped_parts x.me k r own).0 in
      let ls : List Listed = record { object = Variable 2; is_claim = false } ∷ [] in
      let body : List Inner = Inside 12 (reads_number m) ∷ Inside 13 (makes_claim m) ∷ [] in
      let R : Progress → Type 0 = Goes rest in
      let part : may_count within k r ≡ true = or_left (same_ref (k.get r).owner x.me && may_write within r) _
      (both_and (same_ref (k.get r).owner x.me) (may_write within r) (and_both (closed_in k r) (same_ref (k.get r).owner x.me) own).1 may) in
      let test : is_claimable p r.ty && (closed_in k r && (not (is_in r []) && may_count within k r)) ≡ true =
      both_and (is_claimable p r.ty) _ (ap (is_claimable p) rt) (both_and (closed_in k r) _ closed (both_and (not (is_in r [])) (may_count within k r) (ap not (in_none r)) part)) in
      pass_fitting label R (no_choices choices) _ (λ e.
      atomic_passes p at_ label R ls body n (starting k (v ∷ w ∷ Refers r ∷ []) (Chosen news)) (Refers r ∷ []) (λ j. refl) (both_and (closed_in k r) true closed refl) (λ i j.
      pass_then label _ (run_simple p (inner_spot p x (r ∷ []) 12) (reads_number m) i no_tally (starting k (v ∷ w ∷ Refers r ∷ []) (Chosen news))) _ (starting k l (Chosen news))
      (reads_gives x r i no_tally k v w (Chosen news))
      (pass_after label _ (run_simple p within (makes_claim m) (i + 1) no_tally (starting k l (Chosen news))) (λ g. Gives g)
      (new_claim_passes p x (r ∷ []) 13 label _ 1 0 (i + 1) no_tally (starting k l (Chosen news)) (site m) (r ∷ []) news refl (λ q. refl)
      (both_and (is_claimable p r.ty && (closed_in k r && (not (is_in r []) && may_count within k r))) true test refl) refl
      (λ c rs ct absent. pass_gives label _ _
      (let k1 = claimed_heap x.me k r num c in
      pass_specs label R at_ (inv_test p r k k1 ∷ []) j Invariant _ (both_and (inv_holds p r k k1) true (object_inv x.me k r c num rt ct) refl)
      (pass_spec label R at_ (inv_test p r k k1) (j + 1 + 0) Invariant _ (object_inv x.me k r c num rt ct)
      (pass_spec label R at_ (inv_test p c k k1) (j + 1 + 1 + 0) Invariant _ (its_inv x.me k r c num rt ct refl)
      (pass_gives label R _ (go c ct absent))))))))))
