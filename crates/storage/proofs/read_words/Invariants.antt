use Rattle.std.proofs.Common.{◌≡◌, take}
use Rattle.std.specs.List.{filter_map}
use Rattle.storage.specs.File.{value_of}
use Rattle.storage.proofs.read_words.Given as goal

abbrev pub invariant-loop-i : goal.invariant-loop-i
invariant-loop-i g l = take l.i l.words ≡ filter_map (value_of g.V.Stock.decodes) (take l.i l.codes)
