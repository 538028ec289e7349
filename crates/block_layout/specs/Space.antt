-- What stays when terms are put into a graph, with their sorts beside it. Own.
use Rattle.std.specs.Prelude.{◌≡◌}
use Rattle.term_meaning.specs.Meaning.{Language}
use Rattle.condition_formulas.specs.Standing.{Later}
use Rattle.term_language.specs.Languages.{IsLanguage}
use Rattle.term_language.specs.declared.language.Language.{Language as Code}
use Rattle.term_sorts.specs.Sorting.{HaveSorts, AreSortsIn}
use Rattle.block_layout.specs.declared.space.Space.{Space}
use Rattle.block_layout.specs.declared.space.Theory.{Theory}

-- the sorts are those of the first terms
abbrev pub KnowsSorts : Language → Space → Type 0
KnowsSorts l space = HaveSorts l space.graph space.sorts

-- the sorts are those of the terms, one each
abbrev pub IsSorted : Language → Space → Type 0
IsSorted l space = AreSortsIn l space.graph space.sorts

-- what stood stands, and the sorts are still those of the first terms
pub record Keeps (code : Code) (old new : Space) : Type 0 where
  pub later : Later old.graph new.graph
  pub known : (l : Language) → IsLanguage code l → KnowsSorts l old → KnowsSorts l new

-- each term has its sort again
pub record Sorts (code : Code) (old new : Space) : Type 0 where
  pub known : (l : Language) → IsLanguage code l → KnowsSorts l old → IsSorted l new

-- where the sorts were those of the terms, they are it again
pub record StaysSorted (code : Code) (old new : Space) : Type 0 where
  pub sorted : (l : Language) → IsLanguage code l → IsSorted l old → IsSorted l new

-- the program and the formulas of its annotations, in code, are those of the language
pub record IsTheory (theory : Theory) (l : Language) : Type 0 where
  pub program : theory.program.now ≡ l.program
  pub language : IsLanguage theory.language.now l

-- they are those of some language, whose sorts the space knows
pub record IsSomeTheory (theory : Theory) (space : Space) : Type 0 where
  pub language : Language
  pub is : IsTheory theory language
  pub sorts : KnowsSorts language space
