use Rattle.std.proofs.Common.{◌≡◌, rules}
use Rattle.std.specs.List.{fold}
use Rattle.image.specs.Checksum.{octet_step, ones, checksum_of}
use Rattle.image.proofs.Sums.{folded}
use Rattle.image.proofs.checksum.checksum.Goals as goal

pub returns : goal.returns
unfolding checksum_of
returns c =
    let e : c.fold.result ≡ fold octet_step ones c.args.s.now = search rules in
    rw (e, folded)
