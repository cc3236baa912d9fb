-- After any moves, a runner that has read its journal has the law's reading of it.
use Rattle.std.proofs.Common.{List, [], ◌∷◌, fold, refl}
use Rattle.runner.specs.Worlds.{World}
use Rattle.runner.specs.Mirrors.{Mirrors}
use Rattle.runner.proofs.Calling.{mirrored, unready}
use Rattle.runner.specs.declared.moves.Call.{Call}
use Rattle.runner.specs.declared.moves.Call.TheVariants.{Restart, Begin, Step, Mark, Join, Back, Finish, Cancel, Advance, Answer}
use Rattle.runner.specs.declared.moves.Reach.{Reach}
use Rattle.runner.specs.declared.moves.Reach.TheVariants.{Made, CutBefore, CutAfter}
use Rattle.runner.specs.declared.moves.Move.{Move}
use Rattle.runner.specs.Acts.{ticket, called, lost, act_by, act}

pub mirrors_called : (w : World) (c : Call) → Mirrors w → Mirrors (called w c)
mirrors_called w Restart m = mirrored.restart w
mirrors_called w (Begin s) m = mirrored.begin w s m
mirrors_called w (Step n p q) m = mirrored.step w (ticket n) p q m
mirrors_called w (Mark n) m = mirrored.mark w (ticket n) m
mirrors_called w (Join n) m = mirrored.join w (ticket n) m
mirrors_called w (Back n d) m = mirrored.back w (ticket n) d m
mirrors_called w (Finish n) m = mirrored.finish w (ticket n) m
mirrors_called w (Cancel n) m = mirrored.cancel w (ticket n) m
mirrors_called w (Advance s) m = mirrored.advance w s m
mirrors_called w (Answer n) m = m

pub mirrors_act : (w : World) (c : Call) (r : Reach) → Mirrors w → Mirrors (act_by w c r)
mirrors_act w c Made m = mirrors_called w c m
mirrors_act w c CutBefore m = unready (lost w) refl
mirrors_act w c CutAfter m = unready (lost (called w c)) refl

pub mirrors_moves : (w : World) (ms : List Move) → Mirrors w → Mirrors (fold act w ms)
mirrors_moves w [] m = m
mirrors_moves w (c ∷ ms) m = mirrors_moves (act w c) ms (mirrors_act w c.call c.reach m)
