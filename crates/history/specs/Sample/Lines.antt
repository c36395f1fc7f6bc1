-- The sample's lines. They are activated and released, and hear reports, grades, tariffs and both settings. Records close by volume and by
-- release; closings by time, by changes and by management are not in it.
use Rattle.std.specs.Prelude.{ℕ, suc, ◌+◌, ◌-◌, cond, List, [], ◌∷◌, ◌++◌, map, leb, eqb}
use Rattle.std.specs.Prelude.{Option, None, Some}
use Rattle.history.specs.Lists.{sum_of, test}
use Rattle.history.specs.History.{History, ◌▸◌∶◌, began, began_with, total}
use Rattle.history.specs.Records.{Rules, Stretch, whole, in_force}
use Rattle.history.specs.Log.{Said, activates, tells, tells_all, nothing, Meaning}
use Rattle.history.specs.Table.{Step, Handling}
use Rattle.history.specs.Demand.{Forms}
use Rattle.history.specs.Sample.Events.{Event, Order, Settings, settles, sole_or}

-- ---- what the histories say

-- what is in force for a line: its grade, and what the node is set to
pub record Force : Type 0 where
  pub grade : ℕ
  pub set : Settings

pub data Heard : Type 0 where
  order : Order → Heard
  tariff : Heard
  limit : ℕ → Heard
  offset : ℕ → Heard

abbrev pub after : Force → Heard → Force
after s (Heard.order (Order.report k)) = s
after s (Heard.order (Order.grade q)) = record { grade = q; set = s.set }
after s (Heard.order (Order.release k)) = s
after s Heard.tariff = s
after s (Heard.limit l) = record { grade = s.grade; set = record { limit = l; offset = s.set.offset } }
after s (Heard.offset o) = record { grade = s.grade; set = record { limit = s.set.limit; offset = o } }

abbrev pub change : Force → Heard → Option ℕ
change s (Heard.order (Order.report k)) = None
change s (Heard.order (Order.grade q)) = cond (eqb s.grade q) None (Some 0)
change s (Heard.order (Order.release k)) = None
change s Heard.tariff = Some 1
change s (Heard.limit l) = None
change s (Heard.offset o) = None

abbrev pub octets : Heard → ℕ
octets (Heard.order (Order.report k)) = k
octets (Heard.order (Order.grade q)) = 0
octets (Heard.order (Order.release k)) = 0
octets Heard.tariff = 0
octets (Heard.limit l) = 0
octets (Heard.offset o) = 0

abbrev pub releases : Heard → Option ℕ
releases (Heard.order (Order.report k)) = None
releases (Heard.order (Order.grade q)) = None
releases (Heard.order (Order.release k)) = Some k
releases Heard.tariff = None
releases (Heard.limit l) = None
releases (Heard.offset o) = None

-- by volume, against the limit that the record opened with
abbrev pub closing : History Force Heard → ℕ → Heard → Option ℕ
closing r t (Heard.order (Order.report k)) =
    test (leb (began_with r).set.limit (total octets (r ▸ t ∶ Heard.order (Order.report k)))) 16
closing r t (Heard.order (Order.grade q)) = None
closing r t (Heard.order (Order.release k)) = None
closing r t Heard.tariff = None
closing r t (Heard.limit l) = None
closing r t (Heard.offset o) = None

abbrev pub rules : Rules Force Heard
rules = record { after = after; change = change; release = releases; closing = closing; last = λ o. 2 }

abbrev pub says : Event → Said Settings ℕ Force Heard
says (Event.activate n q) = activates n (λ g. record { grade = q; set = g })
says (Event.arrive b p) = nothing
says (Event.order n x) = tells n (Heard.order x)
says (Event.turn b x) = nothing
says Event.tariff = tells_all Heard.tariff
says (Event.limit l) = tells_all (Heard.limit l)
says (Event.offset o) = tells_all (Heard.offset o)

abbrev pub meaning : Meaning Settings ℕ Force Heard Event
meaning = record { same = eqb; says = says; settles = settles }

-- ---- what is written and stored

-- a time comes with the offset that was in force then
pub record Part : Type 0 where
  pub grade : ℕ
  pub octets : ℕ
  pub condition : ℕ
  pub time : ℕ
  pub offset : ℕ

pub record Bill : Type 0 where
  pub name : ℕ
  pub number : Option ℕ
  pub cause : ℕ
  pub opened : ℕ
  pub offset : ℕ
  pub duration : ℕ
  pub parts : List Part

pub record Line : Type 0 where
  pub name : ℕ
  pub grade : ℕ
  pub limit : ℕ
  pub opened : ℕ
  pub offset : ℕ
  pub closed : ℕ
  pub parts : List Part
  pub octets : ℕ

abbrev pub part : Stretch Force Heard → Part
part x = record {
  grade = (in_force rules x.ran).grade;
  octets = total octets (whole x);
  condition = x.condition;
  time = x.time;
  offset = (in_force rules x.ran).set.offset;
}

abbrev pub forms : Forms ℕ Force Heard Line Bill
forms = record {
  as_written = λ n r. record {
    name = n;
    number = r.number;
    cause = r.cause;
    opened = began r.past;
    offset = (began_with r.past).set.offset;
    duration = r.time - began r.past;
    parts = map part r.stretches;
  };
  as_stored = λ n o. record {
    name = n;
    grade = (in_force rules o.running).grade;
    limit = (began_with o.past).set.limit;
    opened = began o.past;
    offset = (began_with o.past).set.offset;
    closed = o.closed;
    parts = map part o.stretches;
    octets = total octets o.running;
  };
}

-- ---- what the node does: g is what it is set to

abbrev pub cut : Settings → Line → ℕ → ℕ → ℕ → List Part
cut g c k condition t = c.parts ++ (record { grade = c.grade; octets = c.octets + k; condition = condition; time = t; offset = g.offset } ∷ [])

abbrev pub bill : Settings → Line → ℕ → Option ℕ → ℕ → ℕ → Bill
bill g c k number cause t = record
    { name = c.name; number = number; cause = cause; opened = c.opened; offset = c.offset; duration = t - c.opened; parts = cut g c k 2 t }

abbrev pub keep : Line → Step Line Bill
keep c = record { next = Some c; out = [] }

-- the line with other parts, and what is counted since
abbrev pub parted : Line → ℕ → List Part → ℕ → Line
parted c q parts k = record
    { name = c.name; grade = q; limit = c.limit; opened = c.opened; offset = c.offset; closed = c.closed; parts = parts; octets = k }

abbrev pub counted : Line → ℕ → Line
counted c k = parted c c.grade c.parts (c.octets + k)

abbrev pub turned : Settings → Line → ℕ → ℕ → ℕ → Line
turned g c condition t q = parted c q (cut g c 0 condition t) 0

abbrev pub full : Settings → Line → ℕ → ℕ → Step Line Bill
full g c t k = record {
  next = Some (record
      { name = c.name; grade = c.grade; limit = g.limit; opened = t; offset = g.offset; closed = suc c.closed; parts = []; octets = 0 });
  out = bill g c k (Some (suc c.closed)) 16 t ∷ [];
}

abbrev pub hear : Settings → Line → ℕ → Heard → Step Line Bill
hear g c t (Heard.order (Order.report k)) =
    cond (leb c.limit (sum_of (λ p. p.octets) c.parts + (c.octets + k))) (full g c t k) (keep (counted c k))
hear g c t (Heard.order (Order.grade q)) = cond (eqb c.grade q) (keep c) (keep (turned g c 0 t q))
hear g c t (Heard.order (Order.release k)) = record { next = None; out = bill g c 0 (sole_or c.closed) k t ∷ [] }
hear g c t Heard.tariff = keep (turned g c 1 t c.grade)
hear g c t (Heard.limit l) = keep c
hear g c t (Heard.offset o) = keep c

abbrev pub takes : Event → Said Settings ℕ Force Heard
takes (Event.activate n q) = activates n (λ g. record { grade = q; set = g })
takes (Event.arrive b p) = nothing
takes (Event.order n x) = tells n (Heard.order x)
takes (Event.turn b x) = nothing
takes Event.tariff = tells_all Heard.tariff
takes (Event.limit l) = tells_all (Heard.limit l)
takes (Event.offset o) = tells_all (Heard.offset o)

abbrev pub handling : Handling Settings ℕ Force Heard Event Line Bill
handling = record {
  same = eqb;
  name = λ c. c.name;
  says = takes;
  settles = settles;
  opening = λ t n s. record
      { name = n; grade = s.grade; limit = s.set.limit; opened = t; offset = s.set.offset; closed = 0; parts = []; octets = 0 };
  hear = hear;
}
