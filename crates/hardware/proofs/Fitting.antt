-- A path that has done the meaning of a transaction that fits has done what it promises.
use Rattle.std.proofs.Common.{◌≡◌, Bool, true, List, Ok, Err, sym, ap, ◌∙◌}
use Rattle.stock.specs.declared.access.Access.{Access}
use Rattle.stock.specs.declared.fault.AccessFault.{AccessFault}
use Rattle.decline.specs.declared.Decline.TheVariants.{Stock}
use Rattle.stock.specs.Arithmetic.{Arithmetic}
use Rattle.meaning.specs.Meaning.{meaning}
use Rattle.meaning.specs.Perform.{as_decline}
use Rattle.meaning.specs.Store.{Store}
use Rattle.hardware.specs.Path.{ran}

module _ {V : Type 0} (b : Bool) (A : Arithmetic V) (xs : List (Access V)) (F : Store V) (ys : List V) (t : b ≡ true) where
  pub granted : Ok tt ≡ (meaning A xs F ys).result → Ok tt ≡ (ran b A xs F ys).outcome
  granted e = ap as_decline e ∙ ap (λ (x : Bool). (ran x A xs F ys).outcome) (sym t)

  pub faulted : (f : AccessFault) → Err f ≡ (meaning A xs F ys).result → Err (Stock f) ≡ (ran b A xs F ys).outcome
  faulted f e = ap as_decline e ∙ ap (λ (x : Bool). (ran x A xs F ys).outcome) (sym t)

  pub words_left : (G : Store V) → G ≡ (meaning A xs F ys).words → G ≡ (ran b A xs F ys).words
  words_left G e = e ∙ ap (λ (x : Bool). (ran x A xs F ys).words) (sym t)
