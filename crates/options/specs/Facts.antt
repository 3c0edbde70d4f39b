-- The words as the code has them. No outcome is defined here.
use Rattle.std.specs.Prelude.{ℕ, ◌-◌, List, ◌++◌, map, length, replicate}
use Rattle.options.specs.declared.reading.Word as code
use Rattle.options.specs.Options.{comma}
use Rattle.options.specs.Reading.{Word, words}

-- the most bytes of a word
abbrev pub row_bytes : ℕ
row_bytes = 20

-- each has as many commas behind it as make it that long
abbrev pub word_row : Word → code.Word
word_row w = record { text = w.text ++ replicate (row_bytes - length w.text) comma; asks = w.asks }

unfoldable pub word_table : List code.Word
word_table = map word_row words
