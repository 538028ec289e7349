-- Each claim site that stands in a function has a label there.
use Rattle.std.proofs.Common.{◌≡◌, ℕ, ◌+◌, Bool, true, false, ◌==◌, ◌||◌, ◌&&◌, ◌⊎◌, ⊎_elim, refl, sym, ◌∙◌, subst, List, [], ◌∷◌, ◌++◌, length, replicate, Option, Some, None, slice_get, arith}
use Rattle.std.proofs.lemmas.List.{length-replicate}
use Rattle.std.proofs.lemmas.Bool.{eqb-true, eq-eqb}
use Rattle.method.specs.declared.program.CheckKind.TheVariants.{ClaimStable, MakeClaim, Invariant, AtomicClosed, LoopInv, Unwrap, Writes, Claimed as HasClaims, Wrap}
use Rattle.method.specs.declared.program.RightSide.{RightSide}
use Rattle.method.specs.declared.program.RightSide.TheVariants.{Compute, Malloc, NewClaim, Interlocked}
use Rattle.method.specs.declared.program.Simple.{Simple}
use Rattle.method.specs.declared.program.Simple.TheVariants.{Assign, ChangeOwned, EndClaim}
use Rattle.method.specs.declared.program.Inner.{Inner, Row_of-Inner, end_of-Inner, more_of-Inner}
use Rattle.method.specs.declared.program.Inner.TheVariants.{Inside, InsideIf'}
use Rattle.method.specs.declared.program.Action.{Action}
use Rattle.method.specs.declared.program.Action.TheVariants.{Simply, Declare, Define, WrapObject, UnwrapObject, AssertSpec, FreeObject, SpawnThread, Atomic}
use Rattle.method.specs.declared.program.Stmt.{Stmt, Row_of-Stmt, end_of-Stmt, more_of-Stmt}
use Rattle.method.specs.declared.program.Stmt.TheVariants.{Do, If', While', DoWhile', Unwrapping', Call, Return}
use Rattle.method.specs.declared.program.ClaimSite.{ClaimSite}
use Rattle.method.specs.declared.program.FunctionInfo.{FunctionInfo}
use Rattle.method.specs.declared.program.Program.{Program}
use Rattle.object_types.specs.Sets.{some}
use Rattle.method.specs.Expressions.{checks, all_checks}
use Rattle.method.specs.Actions.{claimed_checks, target_checks, right_checks, inner_checks, row_checks, list_checks, list_tally, listed_exprs, plain_listed}
use Rattle.method.specs.Text.{stmt_checks, row_checks as stmt_row_checks, right_makes, simple_makes, inner_makes, inner_row_makes, inner_list_makes, action_makes, makes, row_makes, body_makes}
use Rattle.method.specs.Labels.{on_line, kinds, all_kinds, claimed_kinds, site_kinds, target_kinds, right_kinds, store_kinds, simple_kinds, inner_labels, inner_row_labels, inner_list_labels, action_labels, stmt_labels, row_labels, body_labels}
use Rattle.method.proofs.Global.{both_and}
use Rattle.machine_laws.proofs.Typed.{or_cases, or_left, or_right}
use Rattle.safety_law.specs.SitePlaces.{SitePlace, site_places, right_places, simple_places, inner_places, inner_row_places, inner_list_places, action_places, stmt_places, stmt_row_places, body_places, is_placed}
use Rattle.safety_law.proofs.Faults.{Table, KindsAt, LabelsAt, kinds_left, kinds_three, labels_left, labels_right, labels_three, labels_from, on_one_line}
use Rattle.safety_law.proofs.Sizes.{kinds_size, claimed_size, target_size, right_size, inner_size, inner_row_size, inner_list_size, opening_size, line_size, both_sizes, stmt_size, row_size}

pub some_both : {A : Type 0} (t : A → Bool) (xs ys : List A) → some t (xs ++ ys) ≡ some t xs || some t ys
some_both t [] ys = refl
some_both t (x ∷ xs) ys = by (t x) (some_both t xs ys)
  where
    by : (b : Bool) → some t (xs ++ ys) ≡ some t xs || some t ys → b || some t (xs ++ ys) ≡ (b || some t xs) || some t ys
    by true e = refl
    by false e = e

-- site i has a place here, and a label there
pub record IsLabelled (T : Table) (i : ℕ) (ps : List SitePlace) : Type 0 where
  pub number : ℕ
  pub line : ℕ
  pub placed : is_placed i number ps ≡ true
  pub label : T number ClaimStable line

module _ (T : Table) (p : Program) (i : ℕ) (site : ClaimSite) (is : slice_get p.sites.items i ≡ Some site) where
  labelled_left : (ps qs : List SitePlace) → IsLabelled T i ps → IsLabelled T i (ps ++ qs)
  labelled_left ps qs m = record { number = m.number; line = m.line; placed = some_both (λ q. (q.site == i) && (q.number == m.number)) ps qs ∙ or_left _ _ m.placed; label = m.label }

  labelled_right : (ps qs : List SitePlace) → IsLabelled T i qs → IsLabelled T i (ps ++ qs)
  labelled_right ps qs m = record { number = m.number; line = m.line; placed = some_both (λ q. (q.site == i) && (q.number == m.number)) ps qs ∙ or_right _ _ m.placed; label = m.label }

  abbrev Makes : List ℕ → Type 0
  Makes ms = some (λ k. k == i) ms ≡ true

  makes_cases : (xs ys : List ℕ) → Makes (xs ++ ys) → Makes xs ⊎ Makes ys
  makes_cases xs ys e = or_cases (some (λ k. k == i) xs) (some (λ k. k == i) ys) (sym (some_both (λ k. k == i) xs ys) ∙ e)

  site_labelled : (inside : Bool) (line n : ℕ) (o : Option ClaimSite) → slice_get p.sites.items i ≡ o → KindsAt T line (site_kinds inside o) n → IsLabelled T i (site_places o i n)
  site_labelled inside line n None e s = absurd (cc)
  site_labelled inside line n (Some c) e s =
      let many = length c.claimed.items in
      let k = claimed_checks c.claimed.items in
      let z = kinds_three T line (claimed_kinds c.claimed.items) (replicate many MakeClaim) (ClaimStable ∷ []) n k many (claimed_size c.claimed.items) (length-replicate many MakeClaim)
      (kinds_left T line (claimed_kinds c.claimed.items ++ replicate many MakeClaim ++ (ClaimStable ∷ [])) _ n s) in
      let m = n + k + many in
      record { number = m; line = line; placed = or_left ((i == i) && (m == m)) false (both_and (i == i) (m == m) (eq-eqb i i refl) (eq-eqb m m refl)); label = z.2.0 }

  right_labelled : (inside : Bool) (line n : ℕ) (r : RightSide) → Makes (right_makes r) → KindsAt T line (right_kinds p inside r) n → IsLabelled T i (right_places p r n)
  right_labelled inside line n (Compute e) m s = absurd (cc)
  right_labelled inside line n (Malloc ty) m s = absurd (cc)
  right_labelled inside line n (NewClaim k) m s =
      let e : k ≡ i = ⊎_elim (λ z. eqb-true k i z) (λ z. absurd (cc)) (or_cases (k == i) false m) in
      subst (λ j. KindsAt T line (site_kinds inside (slice_get p.sites.items j)) n → IsLabelled T i (site_places (slice_get p.sites.items j) j n)) (sym e)
      (site_labelled inside line n (slice_get p.sites.items i) refl) s
  right_labelled inside line n (Interlocked e f op then') m s = absurd (cc)

  simple_labelled : (inside : Bool) (line n : ℕ) (a : Simple) → Makes (simple_makes a) → KindsAt T line (simple_kinds p inside a) n → IsLabelled T i (simple_places p a n)
  simple_labelled inside line n (Assign t r) m s =
      let z = kinds_three T line (target_kinds t) (right_kinds p inside r) (store_kinds t) n (target_checks t) (right_checks p inside r) (target_size t) (right_size p inside r) s in
      right_labelled inside line (n + target_checks t) r m z.1
  simple_labelled inside line n (ChangeOwned c e es) m s = absurd (cc)
  simple_labelled inside line n (EndClaim q e es) m s = absurd (cc)

  mutual
    inner_labelled : (a : Inner) (n : ℕ) → Makes (inner_makes a) → LabelsAt T (inner_labels p a) n → IsLabelled T i (inner_places p a n)
    inner_labelled (Inside line s) n m z = simple_labelled true line n s m (on_one_line T line (simple_kinds p true s) n z)
    inner_labelled (InsideIf' line e k a q b) n m z =
        let w = labels_three T (on_line line (kinds e)) (inner_row_labels p a) (inner_row_labels p b) n (checks e) (row_checks p a) (line_size line (kinds e) (checks e) (kinds_size e))
        (inner_row_size p a) z in
        ⊎_elim (λ y. labelled_left _ _ (inner_row_labelled a (n + checks e) y w.1)) (λ y. labelled_right _ _ (inner_row_labelled b (n + checks e + row_checks p a) y w.2))
        (makes_cases (inner_row_makes a) (inner_row_makes b) m)

    inner_row_labelled : {k : _} (row : Row_of-Inner k) (n : ℕ) → Makes (inner_row_makes row) → LabelsAt T (inner_row_labels p row) n → IsLabelled T i (inner_row_places p row n)
    inner_row_labelled end_of-Inner n m z = absurd (cc)
    inner_row_labelled (more_of-Inner a row) n m z = ⊎_elim
        (λ y. labelled_left _ _ (inner_labelled a n y (labels_left T (inner_labels p a) (inner_row_labels p row) n z)))
        (λ y. labelled_right _ _ (inner_row_labelled row (n + inner_checks p a) y (labels_right T (inner_labels p a) (inner_row_labels p row) n (inner_checks p a) (inner_size p a) z)))
        (makes_cases (inner_makes a) (inner_row_makes row) m)

  list_labelled : (as_ : List Inner) (n : ℕ) → Makes (inner_list_makes as_) → LabelsAt T (inner_list_labels p as_) n → IsLabelled T i (inner_list_places p as_ n)
  list_labelled [] n m z = absurd (cc)
  list_labelled (a ∷ as_) n m z = ⊎_elim
      (λ y. labelled_left _ _ (inner_labelled a n y (labels_left T (inner_labels p a) (inner_list_labels p as_) n z)))
      (λ y. labelled_right _ _ (list_labelled as_ (n + inner_checks p a) y (labels_right T (inner_labels p a) (inner_list_labels p as_) n (inner_checks p a) (inner_size p a) z)))
      (makes_cases (inner_makes a) (inner_list_makes as_) m)

  action_labelled : (line : ℕ) (a : Action) (n : ℕ) → Makes (action_makes a) → LabelsAt T (action_labels p line a) n → IsLabelled T i (action_places p a n)
  action_labelled line (Simply s) n m z = simple_labelled false line n s m (on_one_line T line (simple_kinds p false s) n z)
  action_labelled line (Declare j) n m z = absurd (cc)
  action_labelled line (Define j r) n m z = right_labelled false line n r m (on_one_line T line (right_kinds p false r) n z)
  action_labelled line (WrapObject ty q e) n m z = absurd (cc)
  action_labelled line (UnwrapObject e) n m z = absurd (cc)
  action_labelled line (AssertSpec e) n m z = absurd (cc)
  action_labelled line (FreeObject e) n m z = absurd (cc)
  action_labelled line (SpawnThread k es) n m z = absurd (cc)
  action_labelled line (Atomic ls body) n m z =
      let a = all_checks (listed_exprs ls.items) + length ls.items in
      let opening = all_kinds (listed_exprs ls.items) ++ replicate (length ls.items) AtomicClosed in
      let closing = replicate (plain_listed ls.items) Invariant ++ replicate (list_tally p body.items).objects Invariant ++ replicate (list_tally p body.items).claims Invariant in
      let w = labels_three T (on_line line opening) (inner_list_labels p body.items) (on_line line closing) n a (list_checks p body.items) (line_size line opening a (opening_size ls.items))
      (inner_list_size p body.items) z in
      list_labelled body.items (n + all_checks (listed_exprs ls.items) + length ls.items) m
      (labels_from T (inner_list_labels p body.items) (n + a) (n + all_checks (listed_exprs ls.items) + length ls.items) (omega arith) w.1)

  module _ (f : FunctionInfo) where
    mutual
      stmt_labelled : (s : Stmt) (n : ℕ) → Makes (makes s) → LabelsAt T (stmt_labels p f s) n → IsLabelled T i (stmt_places p f s n)
      stmt_labelled (Do line a) n m z = action_labelled line a n m z
      stmt_labelled (If' line in_ghost e k a q b) n m z =
          let w = labels_three T (on_line line (kinds e)) (row_labels p f a) (row_labels p f b) n (checks e) (stmt_row_checks p f a) (line_size line (kinds e) (checks e) (kinds_size e))
          (row_size p f a) z in
          ⊎_elim (λ y. labelled_left _ _ (row_labelled a (n + checks e) y w.1)) (λ y. labelled_right _ _ (row_labelled b (n + checks e + stmt_row_checks p f a) y w.2))
          (makes_cases (row_makes a) (row_makes b) m)
      stmt_labelled (While' line invs e k row) n m z =
          let c = length invs.items in
          let loop = replicate c LoopInv in
          let w = labels_three T (on_line line (loop ++ kinds e)) (row_labels p f row) (on_line line loop) n (c + checks e) (stmt_row_checks p f row)
          (line_size line (loop ++ kinds e) (c + checks e) (both_sizes loop (kinds e) c (checks e) (length-replicate c LoopInv) (kinds_size e))) (row_size p f row) z in
          row_labelled row (n + c + checks e) m (labels_from T (row_labels p f row) (n + (c + checks e)) (n + c + checks e) (omega arith) w.1)
      stmt_labelled (DoWhile' line invs k row tested e) n m z =
          let c = length invs.items in
          let loop = replicate c LoopInv in
          let w = labels_three T (on_line line loop) (row_labels p f row) (on_line tested (kinds e)) n c (stmt_row_checks p f row) (line_size line loop c (length-replicate c LoopInv))
          (row_size p f row) (labels_left T (on_line line loop ++ row_labels p f row ++ on_line tested (kinds e)) (on_line line loop) n z) in
          row_labelled row (n + c) m w.1
      stmt_labelled (Unwrapping' line ty q e k row) n m z =
          let opening = kinds e ++ (Unwrap ∷ Writes ∷ HasClaims ∷ []) in
          let closing = Wrap ∷ Writes ∷ Wrap ∷ Invariant ∷ [] in
          let w = labels_three T (on_line line opening) (row_labels p f row) (on_line line closing) n (checks e + 3) (stmt_row_checks p f row)
          (line_size line opening (checks e + 3) (both_sizes (kinds e) (Unwrap ∷ Writes ∷ HasClaims ∷ []) (checks e) 3 (kinds_size e) refl)) (row_size p f row) z in
          row_labelled row (n + checks e + 3) m (labels_from T (row_labels p f row) (n + (checks e + 3)) (n + checks e + 3) (omega arith) w.1)
      stmt_labelled (Call line to c k es) n m z = absurd (cc)
      stmt_labelled (Return line e) n m z = absurd (cc)

      row_labelled : {k : _} (row : Row_of-Stmt k) (n : ℕ) → Makes (row_makes row) → LabelsAt T (row_labels p f row) n → IsLabelled T i (stmt_row_places p f row n)
      row_labelled end_of-Stmt n m z = absurd (cc)
      row_labelled (more_of-Stmt s row) n m z = ⊎_elim
          (λ y. labelled_left _ _ (stmt_labelled s n y (labels_left T (stmt_labels p f s) (row_labels p f row) n z)))
          (λ y. labelled_right _ _ (row_labelled row (n + stmt_checks p f s) y (labels_right T (stmt_labels p f s) (row_labels p f row) n (stmt_checks p f s) (stmt_size p f s) z)))
          (makes_cases (makes s) (row_makes row) m)

    pub body_labelled : (ss : List Stmt) (n : ℕ) → Makes (body_makes ss) → LabelsAt T (body_labels p f ss) n → IsLabelled T i (body_places p f ss n)
    body_labelled [] n m z = absurd (cc)
    body_labelled (s ∷ ss) n m z = ⊎_elim
        (λ y. labelled_left _ _ (stmt_labelled s n y (labels_left T (stmt_labels p f s) (body_labels p f ss) n z)))
        (λ y. labelled_right _ _ (body_labelled ss (n + stmt_checks p f s) y (labels_right T (stmt_labels p f s) (body_labels p f ss) n (stmt_checks p f s) (stmt_size p f s) z)))
        (makes_cases (makes s) (body_makes ss) m)
