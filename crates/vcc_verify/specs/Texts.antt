-- The certificate that is written. Own: a condition that nothing was found of has an empty block.
use Rattle.std.specs.Prelude.{ℕ, List, [], ◌++◌, map, flat_map, codes, decimal, Some, None}
use Rattle.cert_format.specs.Derivations.{Derivation}
use Rattle.cert_format.specs.Text.{Proofs, block_text, lines_of, text_of}
use Rattle.vcc_search.specs.Searches.{Finding}

abbrev pub empty_block : Derivation
empty_block = record { terms = []; steps = [] }

-- the block that is written of a condition
abbrev pub block_of : Finding → Derivation
block_of None = empty_block
block_of (Some block) = block

abbrev pub blocks_of : List (List Finding) → List Derivation
blocks_of gs = flat_map (map block_of) gs

-- version 1, without lemmas, with a block for each condition
abbrev pub certificate_of : List (List Finding) → Proofs
certificate_of gs = record { version = 1; lemmas = []; blocks = blocks_of gs }

abbrev pub certificate_text : List (List Finding) → List ℕ
certificate_text gs = text_of (lines_of (certificate_of gs))

-- ---- as it is written, piece by piece

-- the lines in front of the blocks, of which there are to be n
abbrev pub head_text : ℕ → List ℕ
head_text n = codes "vcc-cert 1\nconditions " ++ (decimal n ++ codes "\n")

abbrev pub blocks_text : List Derivation → List ℕ
blocks_text bs = flat_map block_text bs

-- the line behind the blocks
abbrev pub end_text : List ℕ
end_text = codes "end\n"
