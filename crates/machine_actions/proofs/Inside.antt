-- Statements inside an atomic block, as the code goes through them.
use Rattle.std.proofs.Common.{◌≡◌, ℕ, ◌+◌, ◌<◌, ◌≤◌, Bool, true, false, if◌then◌else◌, List, ◌∷◌, Vec, Global, length, get_or, drop, Result, Ok, Err, inl, inr, refl, sym, ap, subst, ◌∙◌, drop-cons, add-one}
use Rattle.std.proofs.lemmas.List.{drop_all}
use mathlib.Core.Former.{Count}
use Rattle.object_types.specs.declared.references.Ref.{Ref}
use Rattle.object_types.specs.declared.values.Value.{Value}
use Rattle.object_types.specs.Values.{truth}
use Rattle.object_types.specs.Heap.{IsFinite}
use Rattle.method.specs.declared.program.Expr.{Expr}
use Rattle.method.specs.declared.program.Inner as i
use Rattle.method.specs.declared.program.Program.{Program}
use Rattle.method.specs.Expressions.{Context, Spot, Outcome, Gives, after, eval, checks}
use Rattle.method.specs.Actions as m
use Rattle.machine_values.specs.declared.stop.Stop.{Stop}
use Rattle.machine_values.specs.Spots.{heap_at}
use Rattle.machine_values.specs.Answers.{Stops, StopsOr}
use Rattle.machine_values.proofs.Outcomes.{stops_after, stops_or_after, runs_out_too}
use Rattle.machine_objects.specs.declared.progress.Progress.{Progress}
use Rattle.machine_objects.specs.Runs.{Extra, progress_at, Follows, Lands, RunsOr}
use Rattle.machine_objects.proofs.Landing.{then_comes_or, comes_too, behind_gives, behind_maps, of_follower}
use Rattle.machine_actions.specs.RunsOut.{Branch, InnerRunsOut, RowRunsOut, ListRunsOut}

-- what holds at one program and place, holds at the same
pub carried : (P : Program → Spot → Type 0) (p q : Program) (s r : Spot) → p ≡ q → s ≡ r → P p s → P q r
carried P p q s r e f h = subst (λ z. P z r) e (subst (λ z. P p z) f h)

abbrev then_row : i.Inner → (n : Count) × i.Row_of-Inner n
then_row (i.InsideIf' line e m a k b) = (_, a)
then_row _ = (_, i.end_of-Inner)

abbrev else_row : i.Inner → (n : Count) × i.Row_of-Inner n
else_row (i.InsideIf' line e m a k b) = (_, b)
else_row _ = (_, i.end_of-Inner)

module _ (p : Program) (x : Context) (os : List Ref) where
  row_runs : (k : Count) (row : i.Row_of-Inner k) (n : ℕ) (t : m.Tally) (g : m.Progress) → m.run_row p x os row n t g ≡ m.run_list p x os (i.items-the_row-Inner k row) n t g
  row_runs k i.end_of-Inner n t g = refl
  row_runs k (i.more_of-Inner one row) n t g = ap (λ (f : m.Progress → _). after (m.run_inner p x os one n t g) f) (λ j g'. row_runs _ row (n + m.inner_checks p one) (m.tally_plus t (m.inner_tally p one)) g' j)

  -- where the numbers run out on the way of a list, they do on that of its row
  row_runs_out : (k : Count) (row : i.Row_of-Inner k) (n : ℕ) (t : m.Tally) (g : m.Progress) → ListRunsOut p x os (i.items-the_row-Inner k row) n t g → RowRunsOut p x os row n t g
  row_runs_out k i.end_of-Inner n t g h = h
  row_runs_out k (i.more_of-Inner one row) n t g (inl h) = inl h
  row_runs_out k (i.more_of-Inner one row) n t g (inr h) =
      let c = n + m.inner_checks p one in
      let u = m.tally_plus t (m.inner_tally p one) in
      inr (behind_maps (λ g'. ListRunsOut p x os (i.items-the_row-Inner _ row) c u g') (λ g'. RowRunsOut p x os row c u g') (m.run_inner p x os one n t g) (λ g' later. row_runs_out _ row c u g' later) h)

  module _ (line : ℕ) (e : Expr) (a b : Vec i.Inner Global) (n : ℕ) (t : m.Tally) (g : m.Progress) where
    abbrev whole : i.Inner
    whole = i.InsideIf line e a b

    abbrev pub else_checks : ℕ
    else_checks = n + checks e + m.row_checks p (then_row whole).1

    abbrev pub else_tally : m.Tally
    else_tally = m.tally_plus t (m.row_tally p (then_row whole).1)

    abbrev branches : Bool → Outcome m.Progress
    branches c = if c then m.run_row p x os (then_row whole).1 (n + checks e) t g else m.run_row p x os (else_row whole).1 else_checks else_tally g

    pub test_stops : (s : Stop) → Stops s (eval p (m.inner_spot p x os line) g.heap g.locals e n) → Stops s (m.run_inner p x os whole n t g)
    test_stops s h = stops_after s (eval p (m.inner_spot p x os line) g.heap g.locals e n) (λ w. branches (truth w)) h

    module _ (v : Value) (gives : eval p (m.inner_spot p x os line) g.heap g.locals e n ≡ Gives v) where
      tested : m.run_inner p x os whole n t g ≡ branches (truth v)
      tested = ap (λ (o : Outcome Value). after o (λ w. branches (truth w))) gives

      pub runs_then : truth v ≡ true → m.run_inner p x os whole n t g ≡ m.run_list p x os a.items (n + checks e) t g
      runs_then is = tested ∙ ap branches is ∙ row_runs (then_row whole).0 (then_row whole).1 (n + checks e) t g ∙ ap (λ xs. m.run_list p x os xs (n + checks e) t g) (i.items_hidden-the_row-Inner-0 a)

      pub runs_else : truth v ≡ false → m.run_inner p x os whole n t g ≡ m.run_list p x os b.items else_checks else_tally g
      runs_else is = tested ∙ ap branches is ∙ row_runs (else_row whole).0 (else_row whole).1 else_checks else_tally g ∙ ap (λ xs. m.run_list p x os xs else_checks else_tally g) (i.items_hidden-the_row-Inner-0 b)

      abbrev Branches : Value → Type 0
      Branches w = Branch (truth w) (RowRunsOut p x os (then_row whole).1 (n + checks e) t g) (RowRunsOut p x os (else_row whole).1 else_checks else_tally g)

      then_runs_out : truth v ≡ true → ListRunsOut p x os a.items (n + checks e) t g → InnerRunsOut p x os whole n t g
      then_runs_out is h =
          behind_gives (eval p (m.inner_spot p x os line) g.heap g.locals e n) v Branches gives
          (subst (λ c. Branch c (RowRunsOut p x os (then_row whole).1 (n + checks e) t g) (RowRunsOut p x os (else_row whole).1 else_checks else_tally g)) (sym is)
          (row_runs_out (then_row whole).0 (then_row whole).1 (n + checks e) t g (subst (λ xs. ListRunsOut p x os xs (n + checks e) t g) (sym (i.items_hidden-the_row-Inner-0 a)) h)))

      else_runs_out : truth v ≡ false → ListRunsOut p x os b.items else_checks else_tally g → InnerRunsOut p x os whole n t g
      else_runs_out is h =
          behind_gives (eval p (m.inner_spot p x os line) g.heap g.locals e n) v Branches gives
          (subst (λ c. Branch c (RowRunsOut p x os (then_row whole).1 (n + checks e) t g) (RowRunsOut p x os (else_row whole).1 else_checks else_tally g)) (sym is)
          (row_runs_out (else_row whole).0 (else_row whole).1 else_checks else_tally g (subst (λ xs. ListRunsOut p x os xs else_checks else_tally g) (sym (i.items_hidden-the_row-Inner-0 b)) h)))

      module _ (r : Result (Unit {0}) Stop) (last : Progress) where
        pub comes_then : truth v ≡ true → RunsOr (ListRunsOut p x os a.items (n + checks e) t g) r last (m.run_list p x os a.items (n + checks e) t g) → RunsOr (InnerRunsOut p x os whole n t g) r last (m.run_inner p x os whole n t g)
        comes_then is h =
            subst (λ z. RunsOr (InnerRunsOut p x os whole n t g) r last z) (sym (runs_then is))
            (comes_too (ListRunsOut p x os a.items (n + checks e) t g) (InnerRunsOut p x os whole n t g) r (λ u z. Lands (Follows last) z) (m.run_list p x os a.items (n + checks e) t g) (then_runs_out is) h)

        pub comes_else : truth v ≡ false → RunsOr (ListRunsOut p x os b.items else_checks else_tally g) r last (m.run_list p x os b.items else_checks else_tally g) → RunsOr (InnerRunsOut p x os whole n t g) r last (m.run_inner p x os whole n t g)
        comes_else is h =
            subst (λ z. RunsOr (InnerRunsOut p x os whole n t g) r last z) (sym (runs_else is))
            (comes_too (ListRunsOut p x os b.items else_checks else_tally g) (InnerRunsOut p x os whole n t g) r (λ u z. Lands (Follows last) z) (m.run_list p x os b.items else_checks else_tally g) (else_runs_out is) h)

  module _ (row : List i.Inner) (n : ℕ) (t : m.Tally) (first : m.Progress) where
    -- whatever comes of the statements from place k on, with the progress that the code has there, comes of all of them
    abbrev pub Onward : Progress → ℕ → Type 0
    Onward now k =
        (r : Result (Unit {0}) Stop) (last : Progress) →
        ((u : m.Tally) (c : ℕ) (e : Extra) → IsFinite (heap_at e.support now.heap) → RunsOr (ListRunsOut p x os (drop k row) c u (progress_at e now)) r last (m.run_list p x os (drop k row) c u (progress_at e now))) →
        RunsOr (ListRunsOut p x os row n t first) r last (m.run_list p x os row n t first)

    module _ (now : Progress) (k : ℕ) (far : Onward now k) where
      module _ (one : i.Inner) (lt : k < length row) (item : one ≡ get_or row k one) where
        dropped : drop k row ≡ one ∷ drop (k + 1) row
        dropped = drop-cons row k one lt ∙ λ j. sym item j ∷ drop (sym (add-one k) j) row

        pub list_next : (more : Progress) → ((u : m.Tally) (c : ℕ) (e : Extra) → IsFinite (heap_at e.support now.heap) → Lands (Follows more) (m.run_inner p x os one c u (progress_at e now))) → Onward more (k + 1)
        list_next more runs r last rest = far r last (λ u c e finite.
            let onward : m.Progress → Outcome m.Progress = λ g. m.run_list p x os (drop (k + 1) row) (c + m.inner_checks p one) (m.tally_plus u (m.inner_tally p one)) g in
            let later : m.Progress → Type 0 = λ g. ListRunsOut p x os (drop (k + 1) row) (c + m.inner_checks p one) (m.tally_plus u (m.inner_tally p one)) g in
            let here : Type 0 = ListRunsOut p x os (one ∷ drop (k + 1) row) c u (progress_at e now) in
            subst (λ xs. RunsOr (ListRunsOut p x os xs c u (progress_at e now)) r last (m.run_list p x os xs c u (progress_at e now))) (sym dropped)
            (then_comes_or here (Follows more) (m.run_inner p x os one c u (progress_at e now)) onward (runs u c e finite) r (λ z. Follows last)
            (λ g is follows.
            comes_too (later g) here r (λ z w. Lands (Follows last) w) (onward g) (λ h. inr (behind_gives (m.run_inner p x os one c u (progress_at e now)) g later is h))
            (of_follower (λ w. RunsOr (later w) r last (onward w)) more g follows (λ d fits. rest (m.tally_plus u (m.inner_tally p one)) (c + m.inner_checks p one) d fits)))))

        pub list_stops : (s : Stop) (last : Progress) → ((u : m.Tally) (c : ℕ) (e : Extra) → IsFinite (heap_at e.support now.heap) → StopsOr (InnerRunsOut p x os one c u (progress_at e now)) s (m.run_inner p x os one c u (progress_at e now))) → StopsOr (ListRunsOut p x os row n t first) s (m.run_list p x os row n t first)
        list_stops s last stops = far (Err s) last (λ u c e finite.
            let first_out : Type 0 = InnerRunsOut p x os one c u (progress_at e now) in
            subst (λ xs. StopsOr (ListRunsOut p x os xs c u (progress_at e now)) s (m.run_list p x os xs c u (progress_at e now))) (sym dropped)
            (runs_out_too first_out (ListRunsOut p x os (one ∷ drop (k + 1) row) c u (progress_at e now)) s (m.run_list p x os (one ∷ drop (k + 1) row) c u (progress_at e now)) (λ h. inl h)
            (stops_or_after first_out s (m.run_inner p x os one c u (progress_at e now)) (λ g. m.run_list p x os (drop (k + 1) row) (c + m.inner_checks p one) (m.tally_plus u (m.inner_tally p one)) g) (stops u c e finite))))

      pub list_end : length row ≤ k → Lands (Follows now) (m.run_list p x os row n t first)
      list_end ge = far (Ok tt) now (λ u c e finite.
          subst (λ xs. Lands (Follows now) (m.run_list p x os xs c u (progress_at e now))) (sym (drop_all k row ge))
          (record { fits = refl; gave = record { extra = e; finite = finite; is = refl } }))
