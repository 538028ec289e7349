-- A run over items, one after the other: what the rest comes to, the whole comes to.
use Rattle.std.proofs.Common.{◌≡◌, ℕ, suc, ◌+◌, ◌≤◌, List, [], ◌∷◌, ◌++◌, length, map, flat_map, replicate, take, drop, Bool, true, false, ◌&&◌, Option, Some, None, slice_get, Result, Ok, Err, IfOk, OnOk, is_none, refl, sym, ap, ◌∙◌, subst, append_assoc, arith}
use Rattle.std.proofs.lemmas.List.{append-nil, length-append, drop_all, drop-drop, drop-append-le, drop-map, length-replicate}
use Rattle.std.proofs.lemmas.List.Concat.{flat_map-append}
use Rattle.method.specs.declared.program.Item.{Item}
use Rattle.method.specs.declared.program.Program.{Program}
use Rattle.method.specs.Labels as spec
use Rattle.conditions.specs.Conditions.{item_conditions}
use Rattle.condition_meaning.specs.Languages.{language_of}
use Rattle.cert_format.specs.Text.{block_text}
use Rattle.check_labels.specs.declared.labels.ProgramLabel.{ProgramLabel}
use Rattle.check_labels.specs.Labels.{labels_of, label_of}
use Rattle.schedule_replay.proofs.Left.{none_written}
use Rattle.vcc_base.specs.Limits.{number_of}
use Rattle.vcc_base.specs.declared.limit.Limit.TheVariants.{CertBytes as Most}
use Rattle.vcc_base.specs.Maps.{Map, NowWritten, FrontWritten}
use Rattle.vcc_base.specs.declared.sink.SinkFault.{SinkFault}
use Rattle.vcc_base.proofs.Printing.{then_written, front_first, front_more}
use Rattle.vcc_judge.proofs.Lists.{drop_at, map_long}
use Rattle.vcc_verify.specs.declared.fault.VerifyFault.{VerifyFault}
use Rattle.vcc_verify.specs.declared.fault.VerifyFault.TheVariants as f
use Rattle.vcc_verify.specs.declared.items.ItemEnd.{ItemEnd}
use Rattle.vcc_search.specs.Searches.{Finding, all_have_blocks, each_has_blocks}
use Rattle.vcc_verify.specs.Texts.{block_of, blocks_of, blocks_text}
use Rattle.vcc_search.specs.Reports.{first_open, item_line, item_lines, label_in, labels_in, text_of_lines}
use Rattle.vcc_verify.specs.Outcomes.{SomeLines}
use Rattle.vcc_verify.specs.Writing.{Stands}
use Rattle.vcc_verify.specs.Runs.{ConditionsRun, ItemsRun, LinesAfter, LinesCut, at_start}
use Rattle.vcc_verify.proofs.Fronts.{held_as, front_all}
use Rattle.vcc_verify.proofs.Cuts.{after_joined, cut_more}
use Rattle.vcc_verify.proofs.Findings.{nothing_in, nothing_finds_in, find_long, labels_long, open_front}

-- ---- lines

-- nothing is printed
pub no_lines : (fault : VerifyFault) (old : Option (List ℕ)) (lines : List (List ℕ)) → LinesCut fault old old lines
no_lines (f.Sink e) old lines = (0, omega arith, none_written old)
no_lines (f.Store e) old lines = (0, none_written old)
no_lines f.CertBytes old lines = (0, none_written old)
no_lines f.OutOfMemory old lines = (0, none_written old)

some_then : (old now new : Option (List ℕ)) (line : List ℕ) (lines : List (List ℕ)) → NowWritten old now line → SomeLines now new lines → SomeLines old new (line ∷ lines)
some_then old now new line lines first (n, rest) = (suc n, then_written old now new line (text_of_lines (take n lines)) first rest)

cut_lines : (fault : VerifyFault) (old now new : Option (List ℕ)) (line : List ℕ) (lines : List (List ℕ)) → NowWritten old now line → LinesCut fault now new lines → LinesCut fault old new (line ∷ lines)
cut_lines (f.Sink e) old now new line lines first rest = front_more old now new line (text_of_lines lines) first rest
cut_lines (f.Store e) old now new line lines first rest = some_then old now new line lines first rest
cut_lines f.CertBytes old now new line lines first rest = some_then old now new line lines first rest
cut_lines f.OutOfMemory old now new line lines first rest = some_then old now new line lines first rest

lines_then : (result : Result Bool VerifyFault) (old now new : Option (List ℕ)) (line : List ℕ) (lines : List (List ℕ)) → NowWritten old now line → LinesAfter result now new lines → LinesAfter result old new (line ∷ lines)
lines_then (Ok x) old now new line lines first rest = then_written old now new line (text_of_lines lines) first rest
lines_then (Err fault) old now new line lines first rest = cut_lines fault old now new line lines first rest

-- ---- labels

-- nothing is open exactly where all were found
open_blocks : (ls : List spec.ProgramLabel) (os : List Finding) → length os ≤ length ls → is_none (first_open ls os) ≡ all_have_blocks os
open_blocks [] [] long = refl
open_blocks [] (o ∷ os) long = absurd (omega (arith, long))
open_blocks (l ∷ ls) [] long = refl
open_blocks (l ∷ ls) (None ∷ os) long = refl
open_blocks (l ∷ ls) (Some b ∷ os) long = open_blocks ls os (omega (arith, long))

same_none : (o : Option ProgramLabel) → is_none o ≡ is_none (label_in o)
same_none None = refl
same_none (Some l) = refl

-- behind a first list, the labels of the second
labels_after : (labels : List ProgramLabel) (place n : ℕ) (a b : List spec.ProgramLabel) → labels_of (drop place labels) ≡ a ++ b → n ≡ length a → labels_of (drop (place + n) labels) ≡ b
labels_after labels place n a b h e =
    sym (ap labels_of (drop-drop n place labels)) ∙ sym (drop-map label_of n (drop place labels)) ∙ ap (λ (ls : List spec.ProgramLabel). drop n ls) h
    ∙ drop-append-le n a b (omega (arith, e)) ∙ ap (λ (ls : List spec.ProgramLabel). ls ++ b) (drop_all n a (omega (arith, e)))

-- ---- items

-- These items are left from number i on, behind what stands and was printed; and what they come to, all come to.
pub record Left (p : Program) (before : Option Map) (name text : List ℕ) (old : Option (List ℕ)) (all : Bool) (written : ℕ) (now : Option Map) (out : Option (List ℕ)) (i : ℕ) : Type 0 where
  pub so_far : List ℕ
  pub stands : Stands before now name so_far written
  pub rest : (later : Option Map) (printed : Option (List ℕ)) (result : Result Bool VerifyFault) → ItemsRun p (drop i p.items.items) all before later name so_far out printed result
      → ItemsRun p p.items.items true before later name text old printed result

-- the labels from this place on are those of the items from number i on
abbrev pub Aligned : Program → List ProgramLabel → ℕ → ℕ → Type 0
Aligned p labels place i = labels_of (drop place labels) ≡ flat_map (labels_in p) (drop i p.items.items)

pub left_all : (p : Program) (before : Option Map) (name text : List ℕ) (old : Option (List ℕ)) (written : ℕ) (now : Option Map) → Stands before now name text written → Left p before name text old true written now old 0
left_all p before name text old written now stands = record { so_far = text; stands = stands; rest = λ later printed result h. h }

-- an item's run decides all its conditions
pub count_is : (p : Program) (item : Item) (ls : List spec.ProgramLabel) (written : ℕ) (later : Option Map) (name : List ℕ) (end : ItemEnd) (now : Option Map) → written ≤ 67108860
    → ((before : Option Map) (text : List ℕ) → Stands before now name text written → ConditionsRun (language_of p) (item_conditions p item) ls (at_start written) before later name text (Ok end)) → end.conditions ≡ length (item_conditions p item)
count_is p item ls written later name end now room runs =
    let stands : Stands None now name (replicate written 0) written = record { holds = tt; long = sym (length-replicate written 0); room = omega (arith, room) } in
    let run : ConditionsRun (language_of p) (item_conditions p item) ls (at_start written) None later name (replicate written 0) (Ok end) = runs None (replicate written 0) stands in
    let many : length run.findings ≡ length (item_conditions p item) = find_long (language_of p) (item_conditions p item) run.findings run.find in
    omega (arith, run.end.conditions, many)

module _ (p : Program) (labels : List ProgramLabel) (place i : ℕ) (item : Item) (at : slice_get p.items.items i ≡ Some item) (aligned : Aligned p labels place i) where
  split : drop i p.items.items ≡ item ∷ drop (i + 1) p.items.items
  split = drop_at p.items.items i item at

  two : labels_of (drop place labels) ≡ labels_in p item ++ flat_map (labels_in p) (drop (i + 1) p.items.items)
  two = aligned ∙ ap (flat_map (labels_in p)) split

  -- there are labels for its conditions
  pub enough : length (item_conditions p item) ≤ length (drop place labels)
  enough =
      let whole : length (labels_of (drop place labels)) ≡ length (labels_in p item) + length (flat_map (labels_in p) (drop (i + 1) p.items.items)) =
      ap length two ∙ length-append (labels_in p item) (flat_map (labels_in p) (drop (i + 1) p.items.items)) in
      let same : length (labels_of (drop place labels)) ≡ length (drop place labels) = map_long label_of (drop place labels) in
      let own : length (labels_in p item) ≡ length (item_conditions p item) = labels_long p item in
      omega (arith, whole, same, own)

  pub next_aligned : (n : ℕ) → n ≡ length (item_conditions p item) → Aligned p labels (place + n) (i + 1)
  next_aligned n e = labels_after labels place n (labels_in p item) (flat_map (labels_in p) (drop (i + 1) p.items.items)) two (e ∙ sym (labels_long p item))

  module _ (before : Option Map) (name text : List ℕ) (old : Option (List ℕ)) (all : Bool) (written : ℕ) (now : Option Map) (out : Option (List ℕ)) (left : Left p before name text old all written now out i) where
    -- a fault in the item
    pub item_cut : (later : Option Map) (fault : VerifyFault) → ConditionsRun (language_of p) (item_conditions p item) (labels_of (drop place labels)) (at_start written) before later name left.so_far (Err fault)
        → ItemsRun p p.items.items true before later name text old out (Err fault)
    item_cut later fault run = left.rest later out (Err fault) (subst (λ (is : List Item). ItemsRun p is all before later name left.so_far out out (Err fault)) (sym split) record {
      findings = run.findings ∷ nothing_in p (drop (i + 1) p.items.items);
      find = (run.find, nothing_finds_in p (drop (i + 1) p.items.items));
      after = cut_more before later name left.so_far fault (map block_of run.findings) (blocks_of (nothing_in p (drop (i + 1) p.items.items))) run.after;
      lines = no_lines fault out (item_lines p (item ∷ drop (i + 1) p.items.items) (run.findings ∷ nothing_in p (drop (i + 1) p.items.items)));
      all = tt;
      room = tt;
    })

    module _ (later : Option Map) (end : ItemEnd) (run : ConditionsRun (language_of p) (item_conditions p item) (labels_of (drop place labels)) (at_start written) before later name left.so_far (Ok end)) where
      many : length run.findings ≡ length (item_conditions p item)
      many = find_long (language_of p) (item_conditions p item) run.findings run.find

      within : length run.findings ≤ length (labels_in p item)
      within = let own : length (labels_in p item) ≡ length (item_conditions p item) = labels_long p item in omega (arith, many, own)

      open_is : label_in end.first ≡ first_open (labels_in p item) run.findings
      open_is = run.end.first ∙ ap (λ (ls : List spec.ProgramLabel). first_open ls run.findings) two ∙ open_front (labels_in p item) (flat_map (labels_in p) (drop (i + 1) p.items.items)) run.findings within

      line_is : item_line p item (label_in end.first) ≡ item_line p item (first_open (labels_in p item) run.findings)
      line_is = ap (item_line p item) open_is

      all_is : is_none end.first ≡ all_have_blocks run.findings
      all_is = same_none end.first ∙ ap (λ (o : Option spec.ProgramLabel). is_none o) open_is ∙ open_blocks (labels_in p item) run.findings within

      -- a fault in its line
      pub line_cut : (printed : Option (List ℕ)) (fault : SinkFault) → FrontWritten out printed (item_line p item (label_in end.first)) → ItemsRun p p.items.items true before later name text old printed (Err (f.Sink fault))
      line_cut printed fault front = left.rest later printed (Err (f.Sink fault)) (subst (λ (is : List Item). ItemsRun p is all before later name left.so_far out printed (Err (f.Sink fault))) (sym split) record {
        findings = run.findings ∷ nothing_in p (drop (i + 1) p.items.items);
        find = (run.find, nothing_finds_in p (drop (i + 1) p.items.items));
        after = cut_more before later name left.so_far (f.Sink fault) (map block_of run.findings) (blocks_of (nothing_in p (drop (i + 1) p.items.items)))
            (front_all before name later left.so_far (blocks_text (map block_of run.findings)) run.after);
        lines = front_first out printed (item_line p item (first_open (labels_in p item) run.findings)) (text_of_lines (item_lines p (drop (i + 1) p.items.items) (nothing_in p (drop (i + 1) p.items.items))))
            (subst (λ (t : List ℕ). FrontWritten out printed t) line_is front);
        all = tt;
        room = tt;
      })

      -- its line is printed, and the rest is done
      pub one_item : (printed : Option (List ℕ)) (next : Bool) → NowWritten out printed (item_line p item (label_in end.first)) → next ≡ (all && is_none end.first)
          → Left p before name text old next end.written later printed (i + 1)
      one_item printed next line is = record {
        so_far = left.so_far ++ blocks_text (map block_of run.findings);
        stands = record { holds = run.after; long = run.end.long; room = run.end.room };
        rest = λ last lines result h. left.rest last lines result (subst (λ (is : List Item). ItemsRun p is all before last name left.so_far out lines result) (sym split) record {
          findings = run.findings ∷ h.findings;
          find = (run.find, h.find);
          after = after_joined before last name left.so_far result (map block_of run.findings) (blocks_of h.findings) h.after;
          lines = lines_then result out printed lines (item_line p item (first_open (labels_in p item) run.findings)) (item_lines p (drop (i + 1) p.items.items) h.findings)
              (subst (λ (t : List ℕ). NowWritten out printed t) line_is line) h.lines;
          all = same_answer result h.findings h.all;
          room = roomy result h.findings h.room;
        });
      }
        where
          both : (a b c : Bool) → ((a && b) && c) ≡ (a && (b && c))
          both true b c = refl
          both false b c = refl

          same_answer : (r : Result Bool VerifyFault) (gs : List (List Finding)) → IfOk r (λ x. x ≡ (next && each_has_blocks gs)) → IfOk r (λ x. x ≡ (all && (all_have_blocks run.findings && each_has_blocks gs)))
          same_answer (Ok x) gs k =
              k ∙ ap (λ b. b && each_has_blocks gs) (is ∙ ap (λ b. all && b) all_is) ∙ both all (all_have_blocks run.findings) (each_has_blocks gs)
          same_answer (Err e) gs k = tt

          text_is : (gs : List (List Finding)) → (left.so_far ++ blocks_text (map block_of run.findings)) ++ blocks_text (blocks_of gs) ≡ left.so_far ++ blocks_text (blocks_of (run.findings ∷ gs))
          text_is gs = append_assoc left.so_far (blocks_text (map block_of run.findings)) (blocks_text (blocks_of gs)) ∙ ap (λ (t : List ℕ). left.so_far ++ t) (sym (flat_map-append block_text (map block_of run.findings) (blocks_of gs)))

          roomy : (r : Result Bool VerifyFault) (gs : List (List Finding)) → OnOk r (length ((left.so_far ++ blocks_text (map block_of run.findings)) ++ blocks_text (blocks_of gs)) + 4 ≤ number_of Most)
              → OnOk r (length (left.so_far ++ blocks_text (blocks_of (run.findings ∷ gs))) + 4 ≤ number_of Most)
          roomy (Ok x) gs k = subst (λ (t : List ℕ). length t + 4 ≤ number_of Most) (text_is gs) k
          roomy (Err e) gs k = tt

-- all items are behind
pub none_remain : (p : Program) (before : Option Map) (name text : List ℕ) (old : Option (List ℕ)) (all : Bool) (written : ℕ) (now : Option Map) (out : Option (List ℕ)) (i : ℕ) → length p.items.items ≤ i → Left p before name text old all written now out i
    → ItemsRun p p.items.items true before now name text old out (Ok all)
none_remain p before name text old all written now out i above left = left.rest now out (Ok all) (subst (λ (is : List Item). ItemsRun p is all before now name left.so_far out out (Ok all)) (sym (drop_all i p.items.items above)) record {
  findings = [];
  find = tt;
  after = held_as before name now left.so_far (left.so_far ++ []) (sym (append-nil left.so_far)) left.stands.holds;
  lines = none_written out;
  all = same all;
  room =
      let whole : length (left.so_far ++ []) ≡ length left.so_far = ap length (append-nil left.so_far) in
      omega (arith, whole, left.stands.long, left.stands.room);
})
  where
    same : (b : Bool) → b ≡ (b && true)
    same true = refl
    same false = refl
