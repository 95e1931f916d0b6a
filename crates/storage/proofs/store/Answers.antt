use Rattle.storage.proofs.Filed.{loads_back}
use Rattle.storage.proofs.store.Goals as goal

pub returns-clause-back : goal.returns-clause-back
returns-clause-back g c = λ h. loads_back g.V.Stock.codes g.V.Stock.decodes g.met.V.Stock.fits g.met.V.Stock.back _ _ c.write_words.ensures
