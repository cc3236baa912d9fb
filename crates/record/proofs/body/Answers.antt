use Rattle.record.proofs.Round.{at2_read, at4_read, at8_read}
use Rattle.record.proofs.body.Goals as goal

pub returns : goal.returns
returns c = let s = c.args.rest.now in cc (at4_read s 0, at2_read s 8, at4_read s 10, at8_read s 14, at8_read s 22)
