use Rattle.std.proofs.Common.{◌≡◌, ◌*◌, take}
use Rattle.storage.specs.File.{file_of}
use Rattle.storage.proofs.write_words.Given as goal

abbrev pub invariant-loop-i : goal.invariant-loop-i
invariant-loop-i g l = take (8 * l.i) l.file ≡ file_of g.V.Stock.codes (take l.i l.words)
