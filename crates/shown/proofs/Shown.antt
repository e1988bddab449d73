-- What document 01 says of its sheets holds: one statement over the list of them.
--     each     what every element of a list passes, each passes
--     shown    each case of the papers holds
-- Assumes nothing.
use mathlib.Core.Path.{◌≡◌, ap, ◌∙◌}
use mathlib.Core.Bool.{Bool, true, and-eq-true_iff}
use mathlib.Core.List.Memᴰ
use mathlib.Core.List.{List, [], ◌∷◌, Memᴰ}
use Rattle.shown.specs.Cases.{Case, Holds}
use Rattle.shown.specs.Papers.{papers}
use Rattle.shown.proofs.Tests.{passes, every}
use Rattle.shown.proofs.Laws.{passes-holds}
use Rattle.shown.proofs.Computed.{all_pass}

each : (p : Case → Bool) (c : Case) (cs : List Case) → every p cs ≡ true → Memᴰ c cs → p c ≡ true
unfolding every
each p c [] e m = absurd (Memᴰ.not-nil m)
each p c (d ∷ cs) e (Memᴰ.head q) = ap p q ∙ ((and-eq-true_iff (p d) (every p cs)).0 e).0
each p c (d ∷ cs) e (Memᴰ.tail m) = each p c cs ((and-eq-true_iff (p d) (every p cs)).0 e).1 m

pub shown : (c : Case) → Memᴰ c papers → Holds c
shown c m = passes-holds c (each passes c papers all_pass m)
