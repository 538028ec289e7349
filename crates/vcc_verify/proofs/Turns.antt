-- A run over an item's conditions, one after the other: what the rest comes to, the whole comes to.
use Rattle.std.proofs.Common.{◌≡◌, ℕ, ◌+◌, ◌<◌, ◌≤◌, List, [], ◌∷◌, ◌++◌, length, map, drop, get_or, Option, Some, None, Result, Ok, Err, IfOk, refl, sym, ap, ◌∙◌, subst, append_assoc, arith}
use Rattle.std.proofs.lemmas.List.{append-nil, length-append, drop_more}
use Rattle.method.specs.Labels as spec
use Rattle.terms.specs.Formula.{Formula}
use Rattle.term_meaning.specs.Meaning.{Language}
use Rattle.cert_format.specs.Text.{block_text}
use Rattle.condition_code.specs.Emitters.{First, Answers}
use Rattle.check_labels.specs.declared.labels.ProgramLabel.{ProgramLabel}
use Rattle.check_labels.specs.Labels.{label_of, labels_of}
use Rattle.vcc_base.specs.Maps.{Map, NowHolds}
use Rattle.vcc_judge.specs.declared.sequence.ItemConditions.{ItemConditions}
use Rattle.vcc_judge.specs.Remaining.{Remain}
use Rattle.vcc_verify.specs.declared.fault.VerifyFault.{VerifyFault}
use Rattle.vcc_verify.specs.declared.fault.VerifyFault.TheVariants as f
use Rattle.vcc_verify.specs.declared.items.ItemEnd.{ItemEnd}
use Rattle.vcc_search.specs.Searches.{Finding, Finds, AllFind}
use Rattle.vcc_verify.specs.Texts.{block_of, blocks_text}
use Rattle.vcc_search.specs.Reports.{first_open, label_in}
use Rattle.vcc_verify.specs.Writing.{Stands, Cut}
use Rattle.vcc_verify.specs.Runs.{first_after, first_or, IsEnd, ConditionsRun}
use Rattle.vcc_verify.proofs.Fronts.{held_as, front_none}
use Rattle.vcc_verify.proofs.Cuts.{after_then, cut_more, one_text}
use Rattle.vcc_verify.proofs.Findings.{nothing, nothing_finds, none_open}

or_none : (o : Option spec.ProgramLabel) → first_or o None ≡ o
or_none None = refl
or_none (Some l) = refl

-- one finding more
first_step : (o : Option ProgramLabel) (finding : Finding) (label : ProgramLabel) (ls : List spec.ProgramLabel) (os : List Finding)
    → first_or (label_in (first_after o finding label)) (first_open ls os) ≡ first_or (label_in o) (first_open (label_of label ∷ ls) (finding ∷ os))
first_step (Some l) finding label ls os = refl
first_step None (Some b) label ls os = refl
first_step None None label ls os = refl

module _ (l : Language) (before : Option Map) (name : List ℕ) where
  -- no condition is left
  ends : (fs : List Formula) (labels : List spec.ProgramLabel) (end : ItemEnd) (now : Option Map) (text : List ℕ) → fs ≡ [] → Stands before now name text end.written → ConditionsRun l fs labels end before now name text (Ok end)
  ends fs labels end now text none stands = record {
    findings = [];
    find = subst (λ (gs : List Formula). AllFind l gs []) (sym none) tt;
    after = held_as before name now text (text ++ []) (sym (append-nil text)) stands.holds;
    end = record {
      conditions = omega arith;
      first = sym (or_none (label_in end.first)) ∙ ap (first_or (label_in end.first)) (sym (none_open labels));
      long = stands.long ∙ ap length (sym (append-nil text));
      room = stands.room;
    };
  }

  -- memory is refused before the next condition is decided
  stops : (fs : List Formula) (labels : List spec.ProgramLabel) (end : ItemEnd) (now : Option Map) (text : List ℕ) → Stands before now name text end.written → ConditionsRun l fs labels end before now name text (Err f.OutOfMemory)
  stops fs labels end now text stands = record {
    findings = nothing fs;
    find = nothing_finds l fs;
    after = front_none before name now text (blocks_text (map block_of (nothing fs))) stands.holds;
    end = tt;
  }

  -- a fault in the next block
  cuts : (fs : List Formula) (labels : List spec.ProgramLabel) (end : ItemEnd) (now : Option Map) (text : List ℕ) (condition : Formula) (rest : List Formula) (o : Finding) (fault : VerifyFault)
      → fs ≡ condition ∷ rest → Finds l condition o → Cut fault before now name text (block_of o ∷ []) → ConditionsRun l fs labels end before now name text (Err fault)
  cuts fs labels end now text condition rest o fault are finds cut = record {
    findings = o ∷ nothing rest;
    find = subst (λ (gs : List Formula). AllFind l gs (o ∷ nothing rest)) (sym are) (finds, nothing_finds l rest);
    after = cut_more before now name text fault (block_of o ∷ []) (map block_of (nothing rest)) cut;
    end = tt;
  }

  -- the next block is written, and the rest is done
  one_more : (fs : List Formula) (labels ls : List spec.ProgramLabel) (end next : ItemEnd) (now : Option Map) (text : List ℕ) (condition : Formula) (rest : List Formula) (o : Finding) (label : ProgramLabel) (result : Result ItemEnd VerifyFault)
      → fs ≡ condition ∷ rest → labels ≡ label_of label ∷ ls → Finds l condition o → next.conditions ≡ end.conditions + 1 → next.first ≡ first_after end.first o label
      → ConditionsRun l rest ls next before now name (text ++ block_text (block_of o)) result → ConditionsRun l fs labels end before now name text result
  one_more fs labels ls end next now text condition rest o label result are is finds count first run = record {
    findings = o ∷ run.findings;
    find = subst (λ (gs : List Formula). AllFind l gs (o ∷ run.findings)) (sym are) (finds, run.find);
    after = after_then before now name text result (block_of o) (map block_of run.findings) run.after;
    end = at_end result run.findings run.end;
  }
    where
      at_end : (r : Result ItemEnd VerifyFault) (os : List Finding) → IfOk r (λ e. IsEnd next e ls os (text ++ block_text (block_of o))) → IfOk r (λ e. IsEnd end e labels (o ∷ os) text)
      at_end (Ok e) os k = record {
        conditions = omega (arith, k.conditions, count);
        first = k.first ∙ ap (λ (x : Option ProgramLabel). first_or (label_in x) (first_open ls os)) first ∙ first_step end.first o label ls os
            ∙ ap (λ (xs : List spec.ProgramLabel). first_or (label_in end.first) (first_open xs (o ∷ os))) (sym is);
        long = k.long ∙ ap length (append_assoc text (block_text (block_of o)) (blocks_text (map block_of os)));
        room = k.room;
      }
      at_end (Err e) os k = tt

-- These conditions are left from label i on, behind what stands; and what they come to, all come to.
pub record Running (l : Language) (fs : List Formula) (labels : List ProgramLabel) (start : ItemEnd) (before : Option Map) (name text : List ℕ) (conditions : ItemConditions) (end : ItemEnd) (now : Option Map) (i : ℕ) : Type 0 where
  pub so_far : List ℕ
  pub left : List Formula
  pub remain : Remain conditions left
  pub stands : Stands before now name so_far end.written
  pub many : length left + i ≤ length labels
  pub rest : (later : Option Map) (result : Result ItemEnd VerifyFault) → ConditionsRun l left (labels_of (drop i labels)) end before later name so_far result → ConditionsRun l fs (labels_of labels) start before later name text result

module _ (l : Language) (fs : List Formula) (labels : List ProgramLabel) (start : ItemEnd) (before : Option Map) (name text : List ℕ) where
  -- memory is refused before the first condition
  pub never_begins : (now : Option Map) → Stands before now name text start.written → ConditionsRun l fs (labels_of labels) start before now name text (Err f.OutOfMemory)
  never_begins now stands = stops l before name fs (labels_of labels) start now text stands

  pub begins : (conditions : ItemConditions) (end : ItemEnd) (now : Option Map) → end ≡ start → Remain conditions fs → Stands before now name text start.written → length fs ≤ length labels
      → Running l fs labels start before name text conditions end now 0
  begins conditions end now is remain stands many = subst (λ (e : ItemEnd). Running l fs labels start before name text conditions e now 0) (sym is) first
    where
      first : Running l fs labels start before name text conditions start now 0
      first = record {
        so_far = text;
        left = fs;
        remain = remain;
        stands = stands;
        many = omega (arith, many);
        rest = λ later result h. h;
      }

  module _ (conditions : ItemConditions) (end : ItemEnd) (now : Option Map) (i : ℕ) (r : Running l fs labels start before name text conditions end now i) where
    -- memory is refused
    pub refuses : ConditionsRun l fs (labels_of labels) start before now name text (Err f.OutOfMemory)
    refuses = r.rest now (Err f.OutOfMemory) (stops l before name r.left (labels_of (drop i labels)) end now r.so_far r.stands)

    -- none is left
    pub over : r.left ≡ [] → ConditionsRun l fs (labels_of labels) start before now name text (Ok end)
    over none = r.rest now (Ok end) (ends l before name r.left (labels_of (drop i labels)) end now r.so_far none r.stands)

    pub none_given : (after : ItemConditions) (o : Option ℕ) → ((x : ℕ) → o ≡ Some x → ⊥) → Answers after.graph after.emitter after.path.items o r.left → ConditionsRun l fs (labels_of labels) start before now name text (Ok end)
    none_given after None other none = over none
    none_given after (Some x) other first = absurd (other x refl)

    -- all labels are behind
    pub none_left : length labels ≤ i → ConditionsRun l fs (labels_of labels) start before now name text (Ok end)
    none_left above = over (empty r.left (omega (arith, above, r.many)))
      where
        empty : (gs : List Formula) → length gs ≤ 0 → gs ≡ []
        empty [] h = refl
        empty (g ∷ gs) h = absurd (omega (arith, h))

    module _ (after : ItemConditions) (id : ℕ) (first : First after.graph after.emitter after.path.items id r.left) (o : Finding) (finds : Finds l first.condition o) where
      pub cut_here : (later : Option Map) (fault : VerifyFault) → Cut fault before later name r.so_far (block_of o ∷ []) → ConditionsRun l fs (labels_of labels) start before later name text (Err fault)
      cut_here later fault cut = r.rest later (Err fault) (cuts l before name r.left (labels_of (drop i labels)) end later r.so_far first.condition first.rest o fault first.conditions finds cut)

      pub goes_on : (next : ItemEnd) (later : Option Map) (d : ProgramLabel) → i < length labels → next.conditions ≡ end.conditions + 1 → next.first ≡ first_after end.first o (get_or labels i d)
          → next.written ≡ end.written + length (block_text (block_of o)) → next.written ≤ 67108860 → NowHolds before later name (r.so_far ++ blocks_text (block_of o ∷ [])) → Running l fs labels start before name text after next later (i + 1)
      goes_on next later d lt count first_is long room held =
          let both : length (r.so_far ++ block_text (block_of o)) ≡ length r.so_far + length (block_text (block_of o)) = length-append r.so_far (block_text (block_of o)) in
          let size : length r.left ≡ length (first.condition ∷ first.rest) = ap length first.conditions in
          let split : drop i labels ≡ get_or labels i d ∷ drop (i + 1) labels = drop_more labels i d lt in
          record {
            so_far = r.so_far ++ block_text (block_of o);
            left = first.rest;
            remain = first.holds;
            stands = record {
              holds = held_as before name later _ _ (ap (λ (t : List ℕ). r.so_far ++ t) (one_text (block_of o))) held;
              long = omega (arith, long, both, r.stands.long);
              room = omega (arith, room);
            };
            many = omega (arith, size, r.many);
            rest = λ last result h. r.rest last result
                (one_more l before name r.left (labels_of (drop i labels)) (labels_of (drop (i + 1) labels)) end next last r.so_far first.condition first.rest o (get_or labels i d) result first.conditions
                (ap (λ (xs : List ProgramLabel). labels_of xs) split) finds count first_is h);
          }

-- what is given is the first
pub first_answer : (after : ItemConditions) (o : Option ℕ) (id : ℕ) (fs : List Formula) → o ≡ Some id → Answers after.graph after.emitter after.path.items o fs → First after.graph after.emitter after.path.items id fs
first_answer after o id fs e h = subst (λ (x : Option ℕ). Answers after.graph after.emitter after.path.items x fs) e h
