-- The promises leave nothing open: two results that meet one of them, of the same inputs, are equal. First what a promise says by numbers, then
-- what the function answers itself, of which all its clauses hold.
use mathlib.Core.Path.{◌≡◌, sym, ap, ◌∙◌}
use mathlib.Core.List.{List}
use Prim.Native.Nat.{ℕ}
use Rattle.std.specs.Prelude.{Option, Result, Ok, Err, IfOk, IfErr, MatchResult}
use Rattle.profile.specs.declared.Profile.{Profile}
use Rattle.event.specs.declared.Name.{Name}
use Rattle.context.specs.declared.Context.{Context}
use Rattle.node.specs.declared.Message.{Message}
use Rattle.node.specs.declared.Settings.{Settings}
use Rattle.node.specs.declared.Node.{Node}
use Rattle.node.specs.declared.refusal.Refusal.{Refusal}
use Rattle.node.specs.declared.step.Stepped.{Stepped}
use Rattle.node.specs.declared.batch.Batched.{Batched}
use Rattle.node.specs.Refusal.{number_of, answer_of}
use Rattle.node.specs.Sound.{no_node, Makes}
use Rattle.node.specs.Step.{Steps}
use Rattle.node.specs.Batch.{Done, Batches}
use Rattle.node.specs.Private.Range.{Counts, Tries, TriesAll, Serves}
use Rattle.node.proofs.Numbered.{numbered, same_number, same_answer}

-- ---- what public functions promise

-- `sound::fresh`: the answer and the node
pub makes_fixes : {p : Profile} {a₁ a₂ : ℕ} {n₁ n₂ : Node} → Makes p a₁ n₁ → Makes p a₂ n₂ → ◌≡◌ {A = ℕ × Node} (a₁, n₁) (a₂, n₂)
makes_fixes p q = p.is ∙ sym q.is

-- `step::step`: the answer, the node, the written length and the buffer
pub steps_fixes : {n n₁ n₂ : Node} {s b b₁ b₂ : List ℕ} {a₁ a₂ w₁ w₂ : ℕ} → Steps n s b b₁ a₁ n₁ w₁ → Steps n s b b₂ a₂ n₂ w₂
    → ◌≡◌ {A = ℕ × (Node × (ℕ × List ℕ))} (a₁, (n₁, (w₁, b₁))) (a₂, (n₂, (w₂, b₂)))
steps_fixes p q = p.is ∙ sym q.is

-- `batch::batch`: the answer, how many pairs were applied, the node, the written length and the buffer
pub batches_fixes : {n n₁ n₂ : Node} {m : Name} {t : ℕ} {vs b b₁ b₂ : List ℕ} {a₁ a₂ k₁ k₂ w₁ w₂ : ℕ}
    → Batches n m t vs b b₁ a₁ k₁ n₁ w₁ → Batches n m t vs b b₂ a₂ k₂ n₂ w₂
    → ◌≡◌ {A = Done Node} (record { answer = a₁; applied = k₁; left = n₁; written = w₁; buffer = b₁ })
    (record { answer = a₂; applied = k₂; left = n₂; written = w₂; buffer = b₂ })
batches_fixes p q = p.is ∙ sym q.is

-- ---- what public functions answer

-- `sound::fresh`: the node, or the refusal
pub fresh_fixes : (p : Profile) (r₁ r₂ : Result Node Refusal)
    → IfOk r₁ (λ node. Makes p 0 node) → IfErr r₁ (λ refusal. Makes p (number_of refusal) no_node)
    → IfOk r₂ (λ node. Makes p 0 node) → IfErr r₂ (λ refusal. Makes p (number_of refusal) no_node)
    → r₁ ≡ r₂
fresh_fixes p (Ok x) (Ok y) m₁ u₁ m₂ u₂ = ap (λ v. Ok v.1) (makes_fixes m₁ m₂)
fresh_fixes p (Ok x) (Err f) m₁ u₁ m₂ u₂ = absurd (numbered f (sym (ap (λ v. v.0) (makes_fixes m₁ u₂))))
fresh_fixes p (Err e) (Ok y) m₁ u₁ m₂ u₂ = absurd (numbered e (ap (λ v. v.0) (makes_fixes u₁ m₂)))
fresh_fixes p (Err e) (Err f) m₁ u₁ m₂ u₂ = ap (λ v. Err v) (same_number e f (ap (λ v. v.0) (makes_fixes u₁ u₂)))

-- `step::step`: the node and the written length, or the refusal; and the buffer
pub step_fixes : (n : Node) (s b b₁ b₂ : List ℕ) (r₁ r₂ : Result Stepped Refusal)
    → IfOk r₁ (λ r. Steps n s b b₁ 0 r.node r.written) → IfErr r₁ (λ refusal. Steps n s b b₁ (number_of refusal) n 0)
    → IfOk r₂ (λ r. Steps n s b b₂ 0 r.node r.written) → IfErr r₂ (λ refusal. Steps n s b b₂ (number_of refusal) n 0)
    → ◌≡◌ {A = Result Stepped Refusal × List ℕ} (r₁, b₁) (r₂, b₂)
step_fixes n s b b₁ b₂ (Ok x) (Ok y) a₁ u₁ a₂ u₂ =
    ap (λ v. (Ok (record { node = v.1.0; written = v.1.1.0 }), v.1.1.1)) (steps_fixes a₁ a₂)
step_fixes n s b b₁ b₂ (Ok x) (Err f) a₁ u₁ a₂ u₂ = absurd (numbered f (sym (ap (λ v. v.0) (steps_fixes a₁ u₂))))
step_fixes n s b b₁ b₂ (Err e) (Ok y) a₁ u₁ a₂ u₂ = absurd (numbered e (ap (λ v. v.0) (steps_fixes u₁ a₂)))
step_fixes n s b b₁ b₂ (Err e) (Err f) a₁ u₁ a₂ u₂ =
    let w = steps_fixes u₁ u₂ in
    ap (λ (x : Refusal). (Err x, b₁)) (same_number e f (ap (λ v. v.0) w)) ∙ ap (λ v. (Err f, v.1.1.1)) w

-- what a refusal and the rest of what is answered make together
abbrev batched : Option Refusal → Done Node → Batched × List ℕ
batched o d = (record { refusal = o; applied = d.applied; node = d.left; written = d.written }, d.buffer)

-- `batch::batch`: the refusal, if there is one, how many pairs were applied, the node and the written length; and the buffer
pub batch_fixes : (n : Node) (m : Name) (t : ℕ) (vs b b₁ b₂ : List ℕ) (r₁ r₂ : Batched)
    → Batches n m t vs b b₁ (answer_of r₁.refusal) r₁.applied r₁.node r₁.written
    → Batches n m t vs b b₂ (answer_of r₂.refusal) r₂.applied r₂.node r₂.written
    → ◌≡◌ {A = Batched × List ℕ} (r₁, b₁) (r₂, b₂)
batch_fixes n m t vs b b₁ b₂ r₁ r₂ p q =
    let w = batches_fixes p q in
    ap (λ (o : Option Refusal). batched o (record { answer = answer_of r₁.refusal; applied = r₁.applied; left = r₁.node; written = r₁.written; buffer = b₁ }))
    (same_answer r₁.refusal r₂.refusal (ap (λ d. d.answer) w))
    ∙ ap (λ (d : Done Node). batched r₂.refusal d) w

-- ---- what private functions promise

pub counts_fixes : {x : List ℕ} {n m : ℕ} → Counts x n → Counts x m → n ≡ m
counts_fixes p q = p.is ∙ sym q.is

pub tries_fixes : {p : Profile} {gs : Settings} {t : ℕ} {h : Message} {c c₁ c₂ : Context} {b b₁ b₂ : List ℕ} {a₁ a₂ w₁ w₂ : ℕ}
    → Tries p gs t h c b b₁ a₁ c₁ w₁ → Tries p gs t h c b b₂ a₂ c₂ w₂ → ◌≡◌ {A = ℕ × (Context × (ℕ × List ℕ))} (a₁, (c₁, (w₁, b₁))) (a₂, (c₂, (w₂, b₂)))
tries_fixes p q = p.is ∙ sym q.is

pub tries_all_fixes : {p : Profile} {gs : Settings} {t : ℕ} {h : Message} {cs cs₁ cs₂ : List Context} {b b₁ b₂ : List ℕ} {a₁ a₂ w₁ w₂ : ℕ}
    → TriesAll p gs t h cs b b₁ a₁ cs₁ w₁ → TriesAll p gs t h cs b b₂ a₂ cs₂ w₂
    → ◌≡◌ {A = ℕ × (List Context × (ℕ × List ℕ))} (a₁, (cs₁, (w₁, b₁))) (a₂, (cs₂, (w₂, b₂)))
tries_all_fixes p q = p.is ∙ sym q.is

pub serves_fixes : {n n₁ n₂ : Node} {from to t : ℕ} {h : Message} {b b₁ b₂ : List ℕ} {a₁ a₂ w₁ w₂ : ℕ}
    → Serves n from to t h b b₁ a₁ n₁ w₁ → Serves n from to t h b b₂ a₂ n₂ w₂ → ◌≡◌ {A = ℕ × (Node × (ℕ × List ℕ))} (a₁, (n₁, (w₁, b₁))) (a₂, (n₂, (w₂, b₂)))
serves_fixes p q = p.is ∙ sym q.is

-- ---- what private functions answer

-- `emit::try_slot`: how many octets are written, or the refusal; the context; and the buffer
pub try_slot_fixes : (p : Profile) (g : Settings) (t : ℕ) (h : Message) (c c₁ c₂ : Context) (b b₁ b₂ : List ℕ) (r₁ r₂ : Result ℕ Refusal)
    → MatchResult r₁ (λ written. Tries p g t h c b b₁ 0 c₁ written) (λ refusal. Tries p g t h c b b₁ (number_of refusal) c₁ 0)
    → MatchResult r₂ (λ written. Tries p g t h c b b₂ 0 c₂ written) (λ refusal. Tries p g t h c b b₂ (number_of refusal) c₂ 0)
    → ◌≡◌ {A = Result ℕ Refusal × (Context × List ℕ)} (r₁, (c₁, b₁)) (r₂, (c₂, b₂))
try_slot_fixes p g t h c c₁ c₂ b b₁ b₂ (Ok x) (Ok y) m₁ m₂ = ap (λ v. (Ok v.1.1.0, (v.1.0, v.1.1.1))) (tries_fixes m₁ m₂)
try_slot_fixes p g t h c c₁ c₂ b b₁ b₂ (Ok x) (Err f) m₁ m₂ = absurd (numbered f (sym (ap (λ v. v.0) (tries_fixes m₁ m₂))))
try_slot_fixes p g t h c c₁ c₂ b b₁ b₂ (Err e) (Ok y) m₁ m₂ = absurd (numbered e (ap (λ v. v.0) (tries_fixes m₁ m₂)))
try_slot_fixes p g t h c c₁ c₂ b b₁ b₂ (Err e) (Err f) m₁ m₂ =
    let w = tries_fixes m₁ m₂ in
    ap (λ (x : Refusal). (Err x, (c₁, b₁))) (same_number e f (ap (λ v. v.0) w)) ∙ ap (λ v. (Err f, (v.1.0, v.1.1.1))) w

-- `table::try_all`: the same of all contexts
pub try_all_fixes : (p : Profile) (g : Settings) (t : ℕ) (h : Message) (cs cs₁ cs₂ : List Context) (b b₁ b₂ : List ℕ) (r₁ r₂ : Result ℕ Refusal)
    → MatchResult r₁ (λ written. TriesAll p g t h cs b b₁ 0 cs₁ written) (λ refusal. TriesAll p g t h cs b b₁ (number_of refusal) cs₁ 0)
    → MatchResult r₂ (λ written. TriesAll p g t h cs b b₂ 0 cs₂ written) (λ refusal. TriesAll p g t h cs b b₂ (number_of refusal) cs₂ 0)
    → ◌≡◌ {A = Result ℕ Refusal × (List Context × List ℕ)} (r₁, (cs₁, b₁)) (r₂, (cs₂, b₂))
try_all_fixes p g t h cs cs₁ cs₂ b b₁ b₂ (Ok x) (Ok y) m₁ m₂ = ap (λ v. (Ok v.1.1.0, (v.1.0, v.1.1.1))) (tries_all_fixes m₁ m₂)
try_all_fixes p g t h cs cs₁ cs₂ b b₁ b₂ (Ok x) (Err f) m₁ m₂ = absurd (numbered f (sym (ap (λ v. v.0) (tries_all_fixes m₁ m₂))))
try_all_fixes p g t h cs cs₁ cs₂ b b₁ b₂ (Err e) (Ok y) m₁ m₂ = absurd (numbered e (ap (λ v. v.0) (tries_all_fixes m₁ m₂)))
try_all_fixes p g t h cs cs₁ cs₂ b b₁ b₂ (Err e) (Err f) m₁ m₂ =
    let w = tries_all_fixes m₁ m₂ in
    ap (λ (x : Refusal). (Err x, (cs₁, b₁))) (same_number e f (ap (λ v. v.0) w)) ∙ ap (λ v. (Err f, (v.1.0, v.1.1.1))) w
