-- What is gathered in all passes is what the request is judged by. Assumes nothing.
use Rattle.std.proofs.lemmas.Result.{err_from_is_err_and}
use Rattle.request.specs.Reader.{statuses_of, attaches_of}
use Rattle.request.proofs.Gathers.{alone-broken, alone-whole}
use Rattle.request.proofs.reading.alone.Goals as goal

pub returns-in_err-g : goal.returns-in_err-g
returns-in_err-g c = λ e. (let p = err_from_is_err_and c.from_residual.result c.from_residual.ensures.1 in rw (p.1, p.2) (alone-broken _ _ _ c.in_err-g.was e))

pub returns : goal.returns
unfolding statuses_of attaches_of
returns c = λ e. alone-whole _ _ _ _ _ _ c.in_ok-g.was c.identity_len.ensures.0 c.gathered-h.ensures c.gathered-k.ensures c.judged.ensures e
