-- Each number is picked by the same test, so all of them together are one of the two. Assumes nothing.
use Prim.Native.Nat.{ℕ}
use mathlib.Core.Path.{◌≡◌}
use mathlib.Core.Bool.{Bool, true, false, cond}
use Rattle.record.specs.declared.Access.{Access}
use Rattle.record.proofs.sides.one_of.Goals as goal

together : (b : Bool) (x y : Access) {n1 n2 n3 n4 n5 n6 n7 n8 n9 n10 n11 n12 n13 n14 n15 n16 n17 n18 n19 n20 n21 : ℕ} → n1 ≡ cond b x.net y.net → n2 ≡ cond b x.code y.code → n3 ≡ cond b x.lastnet y.lastnet → n4 ≡ cond b x.lastcode y.lastcode → n5 ≡ cond b x.t3502length y.t3502length → n6 ≡ cond b x.uplink y.uplink → n7 ≡ cond b x.sessions y.sessions → n8 ≡ cond b x.state y.state → n9 ≡ cond b x.status y.status → n10 ≡ cond b x.attempts y.attempts → n11 ≡ cond b x.cardcounter y.cardcounter → n12 ≡ cond b x.t3510 y.t3510 → n13 ≡ cond b x.t3511 y.t3511 → n14 ≡ cond b x.t3502 y.t3502 → n15 ≡ cond b x.guti y.guti → n16 ≡ cond b x.visited y.visited → n17 ≡ cond b x.ksi y.ksi → n18 ≡ cond b x.equivalents y.equivalents → n19 ≡ cond b x.entries y.entries → n20 ≡ cond b x.regtype y.regtype → n21 ≡ cond b x.t3346 y.t3346 → record { net = n1; code = n2; lastnet = n3; lastcode = n4; t3502length = n5; uplink = n6; sessions = n7; state = n8; status = n9; attempts = n10; cardcounter = n11; t3510 = n12; t3511 = n13; t3502 = n14; guti = n15; visited = n16; ksi = n17; equivalents = n18; entries = n19; regtype = n20; t3346 = n21 } ≡ cond b x y
together true x y e1 e2 e3 e4 e5 e6 e7 e8 e9 e10 e11 e12 e13 e14 e15 e16 e17 e18 e19 e20 e21 = rw (e1, e2, e3, e4, e5, e6, e7, e8, e9, e10, e11, e12, e13, e14, e15, e16, e17, e18, e19, e20, e21)
together false x y e1 e2 e3 e4 e5 e6 e7 e8 e9 e10 e11 e12 e13 e14 e15 e16 e17 e18 e19 e20 e21 = rw (e1, e2, e3, e4, e5, e6, e7, e8, e9, e10, e11, e12, e13, e14, e15, e16, e17, e18, e19, e20, e21)

pub returns : goal.returns
returns c = together c.args.first c.args.a c.args.b c.pick.ensures c.pick-2.ensures c.pick-3.ensures c.pick-4.ensures c.pick-5.ensures c.pick-6.ensures c.pick-7.ensures c.pick-8.ensures c.pick-9.ensures c.pick-10.ensures c.pick-11.ensures c.pick-12.ensures c.pick-13.ensures c.pick-14.ensures c.pick-15.ensures c.pick-16.ensures c.pick-17.ensures c.pick-18.ensures c.pick-19.ensures c.pick-20.ensures c.pick-21.ensures
