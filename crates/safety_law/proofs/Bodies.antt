-- Local runs of a function fail only where its labels stand.
use Rattle.std.proofs.Common.{◌≡◌, ℕ, ◌+◌, true, ⊎_elim, refl, sym, subst, List, [], ◌∷◌, ◌++◌, map, length, replicate, Option, Some, None, slice_get, arith}
use Rattle.std.proofs.lemmas.List.{length-map, length-replicate}
use Rattle.object_types.specs.declared.values.Value.{Value}
use Rattle.int_ranges.specs.declared.ctype.CType.{CType}
use Rattle.method.specs.declared.program.DeclaredType.{DeclaredType}
use Rattle.method.specs.declared.program.CheckKind.{CheckKind}
use Rattle.method.specs.declared.program.CheckKind.TheVariants.{Writes, Wrap, Unwrap, Claimed as HasClaims, Invariant, Requires, Ensures, LoopInv}
use Rattle.method.specs.declared.program.Spec.{Spec}
use Rattle.method.specs.declared.program.Expr.{Expr}
use Rattle.method.specs.declared.program.Receiver.{Receiver}
use Rattle.method.specs.declared.program.Receiver.TheVariants.{Nobody, NewVariable, Place as Left}
use Rattle.method.specs.declared.program.Stmt.{Stmt, Row_of-Stmt, end_of-Stmt, more_of-Stmt}
use Rattle.method.specs.declared.program.Stmt.TheVariants.{Do, If', While', DoWhile', Unwrapping', Call, Return}
use Rattle.method.specs.declared.program.FunctionInfo.{FunctionInfo}
use Rattle.method.specs.declared.program.Program.{Program}
use Rattle.object_types.specs.Values.{referent}
use Rattle.object_types.specs.Heap.{Heap}
use Rattle.method.specs.Expressions.{End, Context, Outcome, Gives, after, Spot, checks, all_checks, eval, eval_all, may_write, spec_test, clause_tests, item_tests, scene, call_scene, return_scene}
use Rattle.method.specs.Actions.{Place, InLocal, Chosen, Progress, spot, starting, left_side, convert_to, conversion_checks, unwrap_object, wrap_object, act}
use Rattle.method.specs.Machine.{received, value_of, ensured}
use Rattle.method.specs.Text.{receiver_checks, option_checks, call_checks, stmt_checks, row_checks, body_checks}
use Rattle.method.specs.Labels.{on_line, kinds, all_kinds, option_kinds, conversion_kinds, contract_kinds, receiver_kinds, receiving_kinds, store_kinds, stmt_labels, row_labels, body_labels, end_labels}
use Rattle.method.specs.LocalRuns.{FailsAt, Calling, call_known, calls, receives, invariants_at, returns, Reaches, Fails, FailsRow, FailsBody}
use Rattle.method.specs.Typing.{returns_value}
use Rattle.machine_laws.proofs.Outcomes.{OnEnd}
use Rattle.safety_law.specs.LabelFacts.{is_checked}
use Rattle.safety_law.proofs.Faults.{Table, OnFailed, KindsAt, LabelsAt, Within, kinds_left, kinds_right, kinds_three, kinds_from, labels_left, labels_right, labels_three, labels_from, on_one_line, gives_within, unfit_within, after_within, specs_within}
use Rattle.safety_law.proofs.Yields.{Yields, yields_gives, yields_unfit, yields_then, yields_after, yields_specs}
use Rattle.safety_law.proofs.Sizes.{kinds_size, all_kinds_size, both_sizes, three_sizes, line_size, receiver_size, option_size, conversion_size, calling_size, stmt_size, row_size}
use Rattle.safety_law.proofs.Exprs.{first_kinds, last_kinds, eval_within, all_within, convert_within}
use Rattle.safety_law.proofs.Simples.{place_kinds, no_more, left_within, left_place, store_within}
use Rattle.safety_law.proofs.Actions.{unwrap_within, wrap_within, act_within}

-- the table has a check of the machine at this number
abbrev pub HasCheck : Table → ℕ → Type 0
HasCheck T label = (kind : CheckKind) × (line : ℕ) × T label kind line × (is_checked kind ≡ true)

module _ (T : Table) (p : Program) (x : Context) (f : FunctionInfo) where
  has_check : {A : Type 0} (label : ℕ) (o : Outcome A) → Within T o → FailsAt label o → HasCheck T label
  has_check label o t y = let z = subst (λ e. OnFailed e (λ n k i. T n k i × (is_checked k ≡ true))) y.2 t.fails in (y.0, y.1, z.0, z.1)

  invariants_within : (line : ℕ) (invs : List Spec) (h : Heap) (l : List Value) (n : ℕ) → KindsAt T line (replicate (length invs) LoopInv) n → Within T (invariants_at p x f line invs h l n)
  invariants_within line invs h l n s = specs_within T (spot x [] line) (map (λ e. spec_test p e (scene x h l)) invs) (length invs) n LoopInv (Gives tt) refl
      (no_more _ _ (length-map invs _)) s (gives_within T tt)

  -- Calls.

  abbrev PlaceOf : Receiver → Option Place → Type 0
  PlaceOf to None = Unit {0}
  PlaceOf to (Some place) = place_kinds place ≡ receiving_kinds to

  received_within : (to : Receiver) (at_ : Spot) (n : ℕ) (g : Progress) → KindsAt T at_.line (receiver_kinds to) n → Within T (received p to at_ n g)
  received_within Nobody at_ n g s = gives_within T _
  received_within (NewVariable i) at_ n g s = gives_within T _
  received_within (Left t) at_ n g s = after_within T (left_side p at_ t n g) _ (left_within T p at_ t n g s) (λ place. gives_within T _)

  received_place : (to : Receiver) (at_ : Spot) (n : ℕ) (g : Progress) → Yields (PlaceOf to) (received p to at_ n g)
  received_place Nobody at_ n g = yields_gives (PlaceOf Nobody) None tt
  received_place (NewVariable i) at_ n g = yields_gives (PlaceOf (NewVariable i)) (Some (InLocal i)) refl
  received_place (Left t) at_ n g = yields_then (λ place. place_kinds place ≡ store_kinds t) (PlaceOf (Left t)) (left_side p at_ t n g) _ (record { gave = left_place T p at_ t n g })
      (λ place e. yields_gives (PlaceOf (Left t)) (Some place) e)

  known_within : (o : Option FunctionInfo) (k : ℕ) (line : ℕ) (place : Option Place) (args : List Value) (n : ℕ) (h : Heap) → KindsAt T line (contract_kinds Requires Writes o) n →
      Within T (call_known p x f o k (spot x [] line) place args n h)
  known_within None k line place args n h s = unfit_within T
  known_within (Some g) k line place args n h s =
      let at_ = spot x [] line in
      let sc = call_scene x.me h args in
      let a = length g.requires_.items in
      let b = length g.writes.items in
      specs_within T at_ (clause_tests p g.requires_.items sc) a n Requires _ refl (no_more _ _ (length-map g.requires_.items _)) (kinds_left T line (replicate a Requires) (replicate b Writes) n s)
      (specs_within T at_ (item_tests p (may_write at_) g.writes.items sc) b (n + a) Writes _ refl (no_more _ _ (length-map g.writes.items _))
      (kinds_right T line (replicate a Requires) (replicate b Writes) n a (length-replicate a Requires) s) (gives_within T _))

  calls_within : (line : ℕ) (to : Receiver) (k : ℕ) (es : List Expr) (n : ℕ) (h : Heap) (l : List Value) →
      KindsAt T line (receiver_kinds to ++ all_kinds es ++ contract_kinds Requires Writes (slice_get p.functions.items k)) n → Within T (calls p x f line to k es n h l)
  calls_within line to k es n h l s =
      let at_ = spot x [] line in
      let z = kinds_three T line (receiver_kinds to) (all_kinds es) (contract_kinds Requires Writes (slice_get p.functions.items k)) n (receiver_checks to) (all_checks es)
      (receiver_size to) (all_kinds_size es) s in
      after_within T (received p to at_ n (starting h l (Chosen []))) _ (received_within to at_ n (starting h l (Chosen [])) z.0) (λ place.
      after_within T (eval_all p at_ h l es (n + receiver_checks to)) _ (all_within T at_ p h l es (n + receiver_checks to) z.1) (λ args.
      known_within (slice_get p.functions.items k) k line place args (n + receiver_checks to + all_checks es) h z.2))

  calls_place : (line : ℕ) (to : Receiver) (k : ℕ) (es : List Expr) (n : ℕ) (h : Heap) (l : List Value) → Yields (λ y. PlaceOf to y.place) (calls p x f line to k es n h l)
  calls_place line to k es n h l =
      let at_ = spot x [] line in
      let Q : Calling → Type 0 = λ y. PlaceOf to y.place in
      yields_then (PlaceOf to) Q (received p to at_ n (starting h l (Chosen []))) _ (received_place to at_ n (starting h l (Chosen []))) (λ place z.
      yields_after Q (eval_all p at_ h l es (n + receiver_checks to)) _ (λ args. known (slice_get p.functions.items k) place z args (n + receiver_checks to + all_checks es)))
    where
      known : (o : Option FunctionInfo) (place : Option Place) → PlaceOf to place → (args : List Value) (m : ℕ) →
          Yields (λ (y : Calling). PlaceOf to y.place) (call_known p x f o k (spot x [] line) place args m h)
      known None place z args m = yields_unfit (λ (y : Calling). PlaceOf to y.place)
      known (Some g) place z args m =
          let at_ = spot x [] line in
          let sc = call_scene x.me h args in
          yields_specs (λ (y : Calling). PlaceOf to y.place) at_ (clause_tests p g.requires_.items sc) m Requires _ (
          yields_specs (λ (y : Calling). PlaceOf to y.place) at_ (item_tests p (may_write at_) g.writes.items sc) (m + length g.requires_.items) Writes _ (
          yields_gives (λ (y : Calling). PlaceOf to y.place) _ z))

  receives_within : (line : ℕ) (to : Receiver) (place : Option Place) (c : Option CType) (v : Value) (n : ℕ) (h : Heap) (l : List Value) → PlaceOf to place →
      KindsAt T line (conversion_kinds c) n → KindsAt T line (receiving_kinds to) (n + conversion_checks c) → Within T (receives p x f line place c v n h l)
  receives_within line to None c v n h l z s t = gives_within T _
  receives_within line to (Some place) c v n h l z s t =
      let at_ = spot x [] line in
      after_within T (convert_to at_ c v n) _ (convert_within T at_ c v n s) (λ w.
      store_within T p at_ place w (n + conversion_checks c) (starting h l (Chosen [])) (subst (λ ks. KindsAt T line ks (n + conversion_checks c)) (sym z) t))

  value_within : (at_ : Spot) (e : Option Expr) (h : Heap) (l : List Value) (n : ℕ) → KindsAt T at_.line (option_kinds e) n → Within T (value_of p at_ e h l n)
  value_within at_ None h l n s = gives_within T _
  value_within at_ (Some e) h l n s = eval_within T at_ p h l e n s

  returns_within : (line : ℕ) (e : Option Expr) (n : ℕ) (h : Heap) (l : List Value) → KindsAt T line (option_kinds e ++ replicate (length f.ensures_.items) Ensures) n →
      Within T (returns p x f line e n h l)
  returns_within line e n h l s =
      let at_ = spot x [] line in
      let many = length f.ensures_.items in
      after_within T (value_of p at_ e h l n) _ (value_within at_ e h l n (kinds_left T line (option_kinds e) (replicate many Ensures) n s)) (λ v.
      specs_within T at_ (ensured p (Some f) (return_scene x h v)) many (n + option_checks e) Ensures _ refl (no_more _ _ (length-map f.ensures_.items _))
      (kinds_right T line (option_kinds e) (replicate many Ensures) n (option_checks e) (option_size e) s) (gives_within T tt))

  module _ (label : ℕ) where
    abbrev HasIt : Type 0
    HasIt = HasCheck T label

    mutual
      stmt_has_check : (s : Stmt) (n : ℕ) (h : Heap) (l : List Value) → LabelsAt T (stmt_labels p f s) n → Fails p x f label s n h l → HasIt
      stmt_has_check (Do line a) n h l z y = has_check label (act p x y.1 (Chosen y.2) line a n y.0 l) (act_within T p x y.1 (Chosen y.2) line a n y.0 l z) y.4
      stmt_has_check (If' line in_ghost e m a q b) n h l z y =
          let at_ = spot x [] line in
          let w = labels_three T (on_line line (kinds e)) (row_labels p f a) (row_labels p f b) n (checks e) (row_checks p f a) (line_size line (kinds e) (checks e) (kinds_size e))
          (row_size p f a) z in
          ⊎_elim
          (λ d. has_check label (eval p at_ y.0 l e n) (eval_within T at_ p y.0 l e n (on_one_line T line (kinds e) n w.0)) d)
          (λ d. ⊎_elim (λ c. row_has_check a (n + checks e) y.0 l w.1 c.1) (λ c. row_has_check b (n + checks e + row_checks p f a) y.0 l w.2 c.1) d.2)
          y.2
      stmt_has_check (While' line invs e m row) n h l z y =
          let at_ = spot x [] line in
          let k = length invs.items in
          let loop = replicate k LoopInv in
          let w = labels_three T (on_line line (loop ++ kinds e)) (row_labels p f row) (on_line line loop) n (k + checks e) (row_checks p f row)
          (line_size line (loop ++ kinds e) (k + checks e) (both_sizes loop (kinds e) k (checks e) (length-replicate k LoopInv) (kinds_size e))) (row_size p f row) z in
          let first = on_one_line T line (loop ++ kinds e) n w.0 in
          let last = kinds_from T line loop (n + (k + checks e) + row_checks p f row) (n + k + checks e + row_checks p f row) (omega arith)
          (on_one_line T line loop (n + (k + checks e) + row_checks p f row) w.2) in
          ⊎_elim
          (λ d. has_check label (invariants_at p x f line invs.items y.0 l n) (invariants_within line invs.items y.0 l n (kinds_left T line loop (kinds e) n first)) d)
          (λ d. ⊎_elim
          (λ c. has_check label (eval p at_ d.0 d.1 e (n + k)) (eval_within T at_ p d.0 d.1 e (n + k) (kinds_right T line loop (kinds e) n k (length-replicate k LoopInv) first)) c)
          (λ c. ⊎_elim
          (λ b. row_has_check row (n + k + checks e) d.0 d.1 (labels_from T (row_labels p f row) (n + (k + checks e)) (n + k + checks e) (omega arith) w.1) b)
          (λ b. has_check label (invariants_at p x f line invs.items b.2 b.1 (n + k + checks e + row_checks p f row))
          (invariants_within line invs.items b.2 b.1 (n + k + checks e + row_checks p f row) last) b.5)
          c.3)
          d.3)
          y.2
      stmt_has_check (DoWhile' line invs m row tested e) n h l z y =
          let k = length invs.items in
          let loop = replicate k LoopInv in
          let size = line_size line loop k (length-replicate k LoopInv) in
          let front = on_line line loop ++ row_labels p f row ++ on_line tested (kinds e) in
          let w = labels_three T (on_line line loop) (row_labels p f row) (on_line tested (kinds e)) n k (row_checks p f row) size (row_size p f row) (labels_left T front (on_line line loop) n z) in
          let end = three_sizes (on_line line loop) (row_labels p f row) (on_line tested (kinds e)) k (row_checks p f row) (checks e) size (row_size p f row)
          (line_size tested (kinds e) (checks e) (kinds_size e)) in
          let last = kinds_from T line loop (n + (k + row_checks p f row + checks e)) (n + k + row_checks p f row + checks e) (omega arith)
          (on_one_line T line loop (n + (k + row_checks p f row + checks e)) (labels_right T front (on_line line loop) n (k + row_checks p f row + checks e) end z)) in
          ⊎_elim
          (λ d. has_check label (invariants_at p x f line invs.items y.0 l n) (invariants_within line invs.items y.0 l n (on_one_line T line loop n w.0)) d)
          (λ d. ⊎_elim
          (λ c. row_has_check row (n + k) d.0 d.1 w.1 c)
          (λ c. ⊎_elim
          (λ b. has_check label (eval p (spot x [] tested) c.2 c.1 e (n + k + row_checks p f row))
          (eval_within T (spot x [] tested) p c.2 c.1 e (n + k + row_checks p f row) (on_one_line T tested (kinds e) (n + k + row_checks p f row) w.2)) b)
          (λ b. has_check label (invariants_at p x f line invs.items b.1 c.1 (n + k + row_checks p f row + checks e))
          (invariants_within line invs.items b.1 c.1 (n + k + row_checks p f row + checks e) last) b.5)
          c.5)
          d.3)
          y.2
      stmt_has_check (Unwrapping' line ty q e m row) n h l z y =
          let at_ = spot x [] line in
          let opening = kinds e ++ (Unwrap ∷ Writes ∷ HasClaims ∷ []) in
          let closing = Wrap ∷ Writes ∷ Wrap ∷ Invariant ∷ [] in
          let w = labels_three T (on_line line opening) (row_labels p f row) (on_line line closing) n (checks e + 3) (row_checks p f row)
          (line_size line opening (checks e + 3) (both_sizes (kinds e) (Unwrap ∷ Writes ∷ HasClaims ∷ []) (checks e) 3 (kinds_size e) refl)) (row_size p f row) z in
          let first = on_one_line T line opening n w.0 in
          let last = kinds_from T line closing (n + (checks e + 3) + row_checks p f row) (n + checks e + 3 + row_checks p f row) (omega arith)
          (on_one_line T line closing (n + (checks e + 3) + row_checks p f row) w.2) in
          let opens : (v : Value) → Outcome Progress = λ v. unwrap_object p at_ (referent v) (n + checks e) (starting y.0 l (Chosen [])) in
          ⊎_elim
          (λ d. has_check label (after (eval p at_ y.0 l e n) opens)
          (after_within T (eval p at_ y.0 l e n) opens (eval_within T at_ p y.0 l e n (first_kinds T at_ e (Unwrap ∷ Writes ∷ HasClaims ∷ []) n first)) (λ v.
          unwrap_within T p at_ (referent v) (n + checks e) (starting y.0 l (Chosen [])) (last_kinds T at_ e (Unwrap ∷ Writes ∷ HasClaims ∷ []) n first))) d)
          (λ d. ⊎_elim
          (λ c. row_has_check row (n + checks e + 3) d.1 d.2 (labels_from T (row_labels p f row) (n + (checks e + 3)) (n + checks e + 3) (omega arith) w.1) c)
          (λ c. has_check label (wrap_object p at_ ty (referent d.0) (n + checks e + 3 + row_checks p f row) (starting c.2 c.1 (Chosen [])))
          (wrap_within T p at_ ty (referent d.0) (n + checks e + 3 + row_checks p f row) (starting c.2 c.1 (Chosen [])) last) c.5)
          d.5)
          y.2
      stmt_has_check (Call line to c q es) n h l z y =
          let calling = receiver_kinds to ++ all_kinds es.items ++ contract_kinds Requires Writes (slice_get p.functions.items q) in
          let w = kinds_three T line calling (conversion_kinds c) (receiving_kinds to) n (call_checks p to q es.items) (conversion_checks c) (calling_size p to q es.items)
          (conversion_size c) (on_one_line T line (calling ++ conversion_kinds c ++ receiving_kinds to) n z) in
          ⊎_elim
          (λ d. has_check label (calls p x f line to q es.items n y.0 l) (calls_within line to q es.items n y.0 l w.0) d)
          (λ d. has_check label (receives p x f line d.0.place c d.2 (n + call_checks p to q es.items) d.1 l) (receives_within line to d.0.place c d.2 (n + call_checks p to q es.items) d.1 l
          (subst (λ (u : End Calling). OnEnd u (λ v. PlaceOf to v.place)) d.3 (calls_place line to q es.items n y.0 l).gave) w.1 w.2) d.5)
          y.2
      stmt_has_check (Return line e) n h l z y = has_check label (returns p x f line e n y.0 l)
          (returns_within line e n y.0 l (on_one_line T line (option_kinds e ++ replicate (length f.ensures_.items) Ensures) n z)) y.2

      row_has_check : {m : _} (row : Row_of-Stmt m) (n : ℕ) (h : Heap) (l : List Value) → LabelsAt T (row_labels p f row) n → FailsRow p x f label row n h l → HasIt
      row_has_check end_of-Stmt n h l z y = absurd y
      row_has_check (more_of-Stmt s row) n h l z y = ⊎_elim
          (λ d. stmt_has_check s n h l (labels_left T (stmt_labels p f s) (row_labels p f row) n z) d)
          (λ d. row_has_check row (n + stmt_checks p f s) d.0 d.1 (labels_right T (stmt_labels p f s) (row_labels p f row) n (stmt_checks p f s) (stmt_size p f s) z) d.3) y

    -- behind a return no run goes on
    ends_on : (r : Option DeclaredType) (s : Stmt) (ss : List Stmt) (n : ℕ) (h : Heap) (l : List Value) (k : Heap) (m : List Value) → returns_value r (s ∷ ss) ≡ true →
        Reaches p x f s n h l k m → returns_value r ss ≡ true
    ends_on None s ss n h l k m e y = refl
    ends_on (Some ty) (Return line v) [] n h l k m e y = absurd y
    ends_on (Some ty) s [] n h l k m e y = absurd (cc)
    ends_on (Some ty) s (t ∷ ss) n h l k m e y = e

    end_has_check : (r : Option DeclaredType) (n : ℕ) (h : Heap) (l : List Value) → returns_value r [] ≡ true → LabelsAt T (end_labels p f r) n → FailsBody p x f label [] n h l → HasIt
    end_has_check None n h l e z y = has_check label (returns p x f f.end None n y.0 l) (returns_within f.end None n y.0 l (on_one_line T f.end (replicate (length f.ensures_.items) Ensures) n z)) y.2
    end_has_check (Some ty) n h l e z y = absurd (cc)

    pub body_has_check : (ss : List Stmt) (n : ℕ) (h : Heap) (l : List Value) → returns_value f.result ss ≡ true → LabelsAt T (body_labels p f ss) n →
        LabelsAt T (end_labels p f f.result) (n + body_checks p f ss) → FailsBody p x f label ss n h l → HasIt
    body_has_check [] n h l e z u y = end_has_check f.result n h l e (labels_from T (end_labels p f f.result) (n + 0) n (omega arith) u) y
    body_has_check (s ∷ ss) n h l e z u y = ⊎_elim
        (λ d. stmt_has_check s n h l (labels_left T (stmt_labels p f s) (body_labels p f ss) n z) d)
        (λ d. body_has_check ss (n + stmt_checks p f s) d.0 d.1 (ends_on f.result s ss n h l d.0 d.1 e d.2)
        (labels_right T (stmt_labels p f s) (body_labels p f ss) n (stmt_checks p f s) (stmt_size p f s) z)
        (labels_from T (end_labels p f f.result) (n + (stmt_checks p f s + body_checks p f ss)) (n + stmt_checks p f s + body_checks p f ss) (omega arith) u) d.3) y
