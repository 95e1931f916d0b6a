use Rattle.std.proofs.Common.{rules}
use Rattle.storage.proofs.Filed.{stores_as_was}
use Rattle.storage.proofs.load.Goals as goal

pub returns-clause-form : goal.returns-clause-form
returns-clause-form g c = λ h.
    stores_as_was g.V.Stock.codes g.V.Stock.decodes g.met.V.Stock.sole _ _ _
    (search rules) (λ i. (c.type_inv.file i).fits) c.as_chunks.ensures.front (search rules) c.read_words.ensures
