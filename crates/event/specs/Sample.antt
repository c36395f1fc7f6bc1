-- The events of 01's "One session, whole".
use Rattle.std.specs.Prelude.{List, [], ◌∷◌, ◌++◌, ℕ, take, replicate}

-- time 0: activate ID 1, GGSN 10.0.0.2, IMSI 001010123456789, type F1 21, address 10.0.0.3, QoS 1 3 2 4 0, APN "a"; set 1 (02, W6)
unfoldable pub activate : List ℕ
activate =
    0xC3 ∷ 0x5E ∷ 1 ∷ 0 ∷ 0 ∷ 0 ∷ 0 ∷ 0 ∷ 0 ∷ 0 ∷ 1 ∷ 10 ∷ 0 ∷ 0 ∷ 2 ∷ 0
    ∷ 0x00 ∷ 0x01 ∷ 0x01 ∷ 0x21 ∷ 0x43 ∷ 0x65 ∷ 0x87 ∷ 0xF9 ∷ 0xF1 ∷ 0x21 ∷ 10 ∷ 0 ∷ 0 ∷ 3
    ∷ 1 ∷ 3 ∷ 2 ∷ 4 ∷ 0 ∷ 1 ∷ 1 ∷ 0x61 ∷ []

-- time 5: 400 up, 599 down
unfoldable pub traffic : List ℕ
traffic = 0xC3 ∷ 0x5E ∷ 2 ∷ 0 ∷ 0 ∷ 0 ∷ 5 ∷ 0 ∷ 0 ∷ 0 ∷ 1 ∷ 10 ∷ 0 ∷ 0 ∷ 2 ∷ 0 ∷ 0 ∷ 0x01 ∷ 0x90 ∷ 0 ∷ 0 ∷ 0x02 ∷ 0x57 ∷ []

-- time 6: release with this cause
unfoldable pub released : ℕ → List ℕ
released c = 0xC3 ∷ 0x5E ∷ 5 ∷ 0 ∷ 0 ∷ 0 ∷ 6 ∷ 0 ∷ 0 ∷ 0 ∷ 1 ∷ 10 ∷ 0 ∷ 0 ∷ 2 ∷ c ∷ []

-- time 7: set 1 is replaced by edition 2, with 500 octets, 30 s and so many changes (02, W6)
unfoldable pub replacing : ℕ → List ℕ
replacing c = 0xC3 ∷ 0x5E ∷ 12 ∷ 0 ∷ 0 ∷ 0 ∷ 7 ∷ 1 ∷ 0 ∷ 2 ∷ 0 ∷ 0 ∷ 0 ∷ 0 ∷ 0 ∷ 0 ∷ 0x01 ∷ 0xF4 ∷ 0 ∷ 0 ∷ 0 ∷ 30 ∷ c ∷ []

-- the activate with this n and as many times "a" as this
unfoldable pub named : ℕ → ℕ → List ℕ
named n m = take 36 activate ++ (n ∷ replicate m 0x61)
