-- What a whole run comes to.
use Rattle.std.proofs.Common.{◌≡◌, ◌⊎◌, ◌↔◌, ℕ, ◌+◌, ◌≤◌, List, [], ◌∷◌, ◌++◌, length, Bool, true, IsTrue, Option, Ok, Err, codes, refl, inl, inr, sym, ap, ◌∙◌, subst, append_assoc, arith}
use Rattle.std.specs.Prelude.{decimal}
use Rattle.std.proofs.lemmas.List.{length-append}
use Rattle.std.proofs.lemmas.List.Concat.{flat_map-append}
use Rattle.std.proofs.lemmas.Fmt.{decimal_digit, length-decimal-le}
use Rattle.std.proofs.Math.Seq.{take-length}
use Rattle.method.specs.declared.program.Program.{Program}
use Rattle.method.specs.Labels.{program_labels}
use Rattle.check_labels.specs.declared.labels.ProgramLabel.{ProgramLabel}
use Rattle.check_labels.specs.Labels.{label_of, labels_of}
use Rattle.cert_format.specs.Derivations.{Derivation}
use Rattle.cert_format.specs.Text.{IsCertText, block_lines, block_text, count_line, derivation_lines, line_text, text_of}
use Rattle.vcc_base.specs.Limits.{number_of}
use Rattle.vcc_base.specs.declared.limit.Limit.TheVariants.{CertBytes as Most}
use Rattle.vcc_base.specs.Maps.{Map, IfTold, NowHolds, FrontHeld, NowWritten, FrontWritten}
use Rattle.vcc_base.specs.declared.store.StoreFault.{StoreFault}
use Rattle.vcc_base.specs.declared.store.StoreFault.TheVariants.{Missing, Failed, OutOfMemory}
use Rattle.vcc_base.specs.declared.sink.SinkFault.{SinkFault}
use Rattle.vcc_base.proofs.Printing.{then_written, is_written, front_first, front_more}
use Rattle.vcc_judge.specs.Verdicts.{IsVerified}
use Rattle.vcc_judge.proofs.Lists.{map_long}
use Rattle.schedule_replay.proofs.Left.{none_written}
use Rattle.vcc_verify.specs.declared.fault.VerifyFault.{VerifyFault}
use Rattle.vcc_verify.specs.declared.fault.VerifyFault.TheVariants as f
use Rattle.vcc_search.specs.Searches.{Finding, ItemsFind, each_has_blocks}
use Rattle.vcc_verify.specs.Texts.{blocks_of, certificate_of, certificate_text, head_text, blocks_text, end_text}
use Rattle.vcc_search.specs.Reports.{item_lines, text_of_lines, closing_line}
use Rattle.vcc_verify.specs.Outcomes.{LeavesFront, Leaves, Overflows, Prints, Verifies}
use Rattle.vcc_verify.specs.Writing.{Cut, Begins}
use Rattle.vcc_verify.specs.Runs.{ItemsRun, LinesCut}
use Rattle.vcc_verify.proofs.Fronts.{held_as, front_as, front_all, front_first as front_of_first, front_then}
use Rattle.vcc_verify.proofs.Findings.{nothing_in, nothing_finds_in, many_blocks, all_fit, blocks_verify, verify_blocks}

-- ---- the text

-- the lines in front of the blocks, as they are written
head_lines : (n : ℕ) (rest : List ℕ) → line_text (count_line (codes "vcc-cert") 1) ++ (line_text (count_line (codes "conditions") n) ++ rest) ≡ head_text n ++ rest
head_lines n rest = ap (λ (d : List ℕ). line_text (codes "vcc-cert" ∷ d ∷ []) ++ (line_text (count_line (codes "conditions") n) ++ rest)) (decimal_digit 1 (omega arith))

lines_and_end : (bs : List Derivation) → text_of (block_lines bs ++ (codes "end" ∷ []) ∷ []) ≡ blocks_text bs ++ end_text
lines_and_end [] = refl
lines_and_end (b ∷ bs) =
    ap text_of (append_assoc (derivation_lines (codes "condition") b) (block_lines bs) ((codes "end" ∷ []) ∷ []))
    ∙ flat_map-append line_text (derivation_lines (codes "condition") b) (block_lines bs ++ (codes "end" ∷ []) ∷ [])
    ∙ ap (λ (t : List ℕ). block_text b ++ t) (lines_and_end bs) ∙ sym (append_assoc (block_text b) (blocks_text bs) end_text)

pub text_is : (gs : List (List Finding)) → certificate_text gs ≡ head_text (length (blocks_of gs)) ++ (blocks_text (blocks_of gs) ++ end_text)
text_is gs =
    head_lines (length (blocks_of gs)) (text_of (block_lines (blocks_of gs) ++ (codes "end" ∷ []) ∷ []))
    ∙ ap (λ (t : List ℕ). head_text (length (blocks_of gs)) ++ t) (lines_and_end (blocks_of gs))

-- the first lines are short
pub head_fits : (n : ℕ) → n ≤ 20000 → length (head_text n) + 4 ≤ number_of Most
head_fits n few =
    let digits : length (decimal n) ≤ 5 = length-decimal-le 5 n (omega arith) (omega (arith, few)) (omega (arith, few)) in
    let first : length (head_text n) ≡ length (codes "vcc-cert 1\nconditions ") + length (decimal n ++ codes "\n") = length-append (codes "vcc-cert 1\nconditions ") (decimal n ++ codes "\n") in
    let second : length (decimal n ++ codes "\n") ≡ length (decimal n) + 1 = length-append (decimal n) (codes "\n") in
    let long : length (codes "vcc-cert 1\nconditions ") ≡ 22 = refl in
    omega (arith, digits, first, second, long)

module _ (p : Program) (labels : List ProgramLabel) (are : labels_of labels ≡ program_labels p) (few : length labels ≤ 20000) where
  module _ (gs : List (List Finding)) (find : ItemsFind p p.items.items gs) where
    count : length labels ≡ length (blocks_of gs)
    count = sym (map_long label_of labels) ∙ ap length are ∙ sym (many_blocks p gs find)

    is_text : IsCertText (certificate_text gs) (certificate_of gs)
    is_text = record {
      spelled = refl;
      fits = record {
        version = inl (refl, refl);
        lemmas = tt;
        blocks = all_fit p gs find;
        few_lemmas = omega arith;
        few_blocks = omega (arith, few, count);
      };
    }

    -- the text, by the number of labels
    whole_is : certificate_text gs ≡ head_text (length labels) ++ (blocks_text (blocks_of gs) ++ end_text)
    whole_is = text_is gs ∙ ap (λ n. head_text n ++ (blocks_text (blocks_of gs) ++ end_text)) (sym count)

    module _ (before : Option Map) (name : List ℕ) (now : Option Map) where
      front_of_head : FrontHeld before now name [] (head_text (length labels)) → FrontHeld before now name [] (certificate_text gs)
      front_of_head front = front_as before name now [] _ _ (sym whole_is) (front_of_first before name now [] (head_text (length labels)) (blocks_text (blocks_of gs) ++ end_text) front)

      front_of_blocks : FrontHeld before now name (head_text (length labels)) (blocks_text (blocks_of gs)) → FrontHeld before now name [] (certificate_text gs)
      front_of_blocks front =
          front_as before name now [] _ _ (sym whole_is) (front_then before name now [] (head_text (length labels)) (blocks_text (blocks_of gs) ++ end_text)
          (front_of_first before name now (head_text (length labels)) (blocks_text (blocks_of gs)) end_text front))

      front_of_end : FrontHeld before now name (head_text (length labels) ++ blocks_text (blocks_of gs)) end_text → FrontHeld before now name [] (certificate_text gs)
      front_of_end front =
          front_as before name now [] _ _ (sym whole_is) (front_then before name now [] (head_text (length labels)) (blocks_text (blocks_of gs) ++ end_text)
          (front_then before name now (head_text (length labels)) (blocks_text (blocks_of gs)) end_text front))

      all_holds : NowHolds before now name ((head_text (length labels) ++ blocks_text (blocks_of gs)) ++ end_text) → NowHolds before now name (certificate_text gs)
      all_holds held = held_as before name now _ _ (append_assoc (head_text (length labels)) (blocks_text (blocks_of gs)) end_text ∙ sym whole_is) held

      -- what is left of the blocks is left of the text
      cut_text : (fault : VerifyFault) → Cut fault before now name (head_text (length labels)) (blocks_of gs) → Leaves (Err fault) before now name gs
      cut_text f.CertBytes cut = subst (λ n. Overflows before now name (head_text n) (blocks_of gs)) count cut
      cut_text (f.Store Missing) cut = cut
      cut_text (f.Store Failed) cut = inr (front_of_blocks cut)
      cut_text (f.Store OutOfMemory) cut = inr (front_of_blocks cut)
      cut_text (f.Sink fault) cut = inr (front_of_blocks cut)
      cut_text f.OutOfMemory cut = inr (front_of_blocks cut)

      head_left : LeavesFront before now name (head_text (length labels)) → LeavesFront before now name (certificate_text gs)
      head_left (inl same) = inl same
      head_left (inr front) = inr (front_of_head front)

      begin_text : (fault : VerifyFault) → Begins (Err fault) before now name (length labels) → Leaves (Err fault) before now name gs
      begin_text f.CertBytes h = absurd h
      begin_text (f.Store Missing) h = h
      begin_text (f.Store Failed) h = head_left h
      begin_text (f.Store OutOfMemory) h = head_left h
      begin_text (f.Sink fault) h = absurd h
      begin_text f.OutOfMemory h = head_left h

      end_text_left : (fault : StoreFault) → ((fault ≡ Missing) × IfTold before (λ m. ⊥)) ⊎ ((fault ≡ Missing → ⊥) × FrontHeld before now name (head_text (length labels) ++ blocks_text (blocks_of gs)) end_text)
          → Leaves (Err (f.Store fault)) before now name gs
      end_text_left Missing (inl (is, never)) = never
      end_text_left Missing (inr (not, front)) = absurd (not refl)
      end_text_left Failed (inl (is, never)) = absurd (cc is)
      end_text_left Failed (inr (not, front)) = inr (front_of_end front)
      end_text_left OutOfMemory (inl (is, never)) = absurd (cc is)
      end_text_left OutOfMemory (inr (not, front)) = inr (front_of_end front)

    -- ---- the report

    prints_nothing : (fault : VerifyFault) (old : Option (List ℕ)) → Prints (Err fault) old old p gs
    prints_nothing (f.Sink e) old = (0, omega arith, none_written old)
    prints_nothing (f.Store e) old = (0, none_written old)
    prints_nothing f.CertBytes old = (0, none_written old)
    prints_nothing f.OutOfMemory old = (0, none_written old)

    cut_report : (fault : VerifyFault) (old new : Option (List ℕ)) → LinesCut fault old new (item_lines p p.items.items gs) → Prints (Err fault) old new p gs
    cut_report (f.Sink e) old new h = front_first old new (text_of_lines (item_lines p p.items.items gs)) (closing_line (each_has_blocks gs)) h
    cut_report (f.Store e) old new h = h
    cut_report f.CertBytes old new h = h
    cut_report f.OutOfMemory old new h = h

    all_lines : (fault : StoreFault) (old new : Option (List ℕ)) → NowWritten old new (text_of_lines (item_lines p p.items.items gs)) → Prints (Err (f.Store fault)) old new p gs
    all_lines fault old new h =
        (length (item_lines p p.items.items gs), is_written old new _ _ (ap text_of_lines (sym (take-length (item_lines p p.items.items gs)))) h)

    truth : (all : Bool) → all ≡ each_has_blocks gs → IsTrue all ↔ IsVerified p [] (blocks_of gs)
    truth all is = ((λ yes. blocks_verify p gs find (sym is ∙ yes)), (λ verified. is ∙ verify_blocks p gs find verified))

  -- ---- a run

  module _ (before : Option Map) (name : List ℕ) (old : Option (List ℕ)) where
    -- it ends before it begins to write, or while it writes the first lines
    pub no_begin : (now : Option Map) (fault : VerifyFault) → Begins (Err fault) before now name (length labels) → Verifies p name before now old old (Err fault)
    no_begin now fault h =
        let gs = nothing_in p p.items.items in
        let find = nothing_finds_in p p.items.items in
        record {
          findings = gs;
          find = find;
          text = is_text gs find;
          leaves = begin_text gs find before name now fault h;
          prints = prints_nothing gs find fault old;
          answers = tt;
        }

    -- a fault at an item
    pub cut_run : (now : Option Map) (new : Option (List ℕ)) (fault : VerifyFault) → ItemsRun p p.items.items true before now name (head_text (length labels)) old new (Err fault) → Verifies p name before now old new (Err fault)
    cut_run now new fault run = record {
      findings = run.findings;
      find = run.find;
      text = is_text run.findings run.find;
      leaves = cut_text run.findings run.find before name now fault run.after;
      prints = cut_report run.findings run.find fault old new run.lines;
      answers = tt;
    }

    module _ (now : Option Map) (new : Option (List ℕ)) (all : Bool) (run : ItemsRun p p.items.items true before now name (head_text (length labels)) old new (Ok all)) where
      pub text_holds : NowHolds before now name (head_text (length labels) ++ blocks_text (blocks_of run.findings))
      text_holds = run.after

      -- a fault at the last line of the certificate
      pub cut_end : (next : Option Map) (fault : StoreFault)
          → ((fault ≡ Missing) × IfTold before (λ m. ⊥)) ⊎ ((fault ≡ Missing → ⊥) × FrontHeld before next name (head_text (length labels) ++ blocks_text (blocks_of run.findings)) end_text)
          → Verifies p name before next old new (Err (f.Store fault))
      cut_end next fault h = record {
        findings = run.findings;
        find = run.find;
        text = is_text run.findings run.find;
        leaves = end_text_left run.findings run.find before name next fault h;
        prints = all_lines run.findings run.find fault old new run.lines;
        answers = tt;
      }

      module _ (next : Option Map) (held : NowHolds before next name ((head_text (length labels) ++ blocks_text (blocks_of run.findings)) ++ end_text)) where
        -- a fault at the last line of the report
        pub cut_closing : (last : Option (List ℕ)) (fault : SinkFault) → FrontWritten new last (closing_line all) → Verifies p name before next old last (Err (f.Sink fault))
        cut_closing last fault front = record {
          findings = run.findings;
          find = run.find;
          text = is_text run.findings run.find;
          leaves = inr (front_all before name next [] (certificate_text run.findings) (all_holds run.findings run.find before name next held));
          prints = front_more old new last (text_of_lines (item_lines p p.items.items run.findings)) (closing_line (each_has_blocks run.findings)) run.lines
              (subst (λ b. FrontWritten new last (closing_line b)) run.all front);
          answers = tt;
        }

        -- all is written
        pub whole : (last : Option (List ℕ)) → NowWritten new last (closing_line all) → Verifies p name before next old last (Ok all)
        whole last closing = record {
          findings = run.findings;
          find = run.find;
          text = is_text run.findings run.find;
          leaves = (all_holds run.findings run.find before name next held, short);
          prints = then_written old new last (text_of_lines (item_lines p p.items.items run.findings)) (closing_line (each_has_blocks run.findings)) run.lines
              (subst (λ b. NowWritten new last (closing_line b)) run.all closing);
          answers = (run.all, truth run.findings run.find all run.all);
        }
          where
            short : length (certificate_text run.findings) ≤ number_of Most
            short =
                let is : length (certificate_text run.findings) ≡ length ((head_text (length labels) ++ blocks_text (blocks_of run.findings)) ++ end_text) =
                ap length (whole_is run.findings run.find ∙ sym (append_assoc (head_text (length labels)) (blocks_text (blocks_of run.findings)) end_text)) in
                let both : length ((head_text (length labels) ++ blocks_text (blocks_of run.findings)) ++ end_text) ≡ length (head_text (length labels) ++ blocks_text (blocks_of run.findings)) + 4 =
                length-append (head_text (length labels) ++ blocks_text (blocks_of run.findings)) end_text in
                omega (arith, is, both, run.room)
