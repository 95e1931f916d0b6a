-- The maps from a word's number to the number of its ownership record.
--     by_remainder    neighbouring words have different records
--     by_quotient     each run of 64 words shares one record
--     by_scatter      the top six bits of a 32-bit product: near words land far apart
use Rattle.std.specs.Prelude.{ℕ, ◌*◌, ◌/◌, ◌%◌, ◌^◌}

abbrev pub by_remainder : ℕ → ℕ
by_remainder word = word % 64

abbrev pub by_quotient : ℕ → ℕ
by_quotient word = word / 64

abbrev pub by_scatter : ℕ → ℕ
by_scatter word = (word * 2654435761) % 2 ^ 32 / 67108864
