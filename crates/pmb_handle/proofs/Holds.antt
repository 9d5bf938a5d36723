-- A pointer with the heap's handle beside it: its machine value, and what it owns as a handle. Assumes `Logic`.
--     heap_val, word                       the machine values of the heap's handle, and of the two in a struct
--     heap_good, word_good                 they have their types
--     Heap, heap_row_laws, gone, lets_go   the heap's handle as the type argument of a call of std's
--     Words, word_is, heap_is              what the two fields of any such struct own, and what it tells
--     heap_in, words_in                    neither owns anything, so each is had for nothing
--     longer, shorter, asks                such a call has a second lifetime, which is 'static here
--     either_held                          a handle is null, or the pointer of a box, which may be tested
use Rattle.pmb_handle.proofs.Steps.{◌≡◌, ℕ, List, [], ◌∷◌, refl, subst, lit<, Option, None, Some, Global, ghosts}
use Rattle.pmb_handle.proofs.Steps.{full_share, Val, vcons, vnil, ‵, raw, ◌⊛◌, ◌$◌, move, drop, use0, use1, split}
use Rattle.pmb_handle.proofs.Steps.{split3, join, fsplit, fjoin, ftrue, flft, fact, fact_i, emp, ◌⊑◌, RattleType, Ptr}
use Rattle.pmb_handle.proofs.Steps.{block_ptr, null_ptr, ptr_val, Is, no}
use mathlib.Core.Bool.{true, ◌&&◌}
use lib.Dec.{T}
use seplogic.Ra.Ura.{Ura}
use mir.Syntax.{Dict, impl, dnil, tcons, tnil, ty_ptr}
use mir.Raw.{raw as bare}
use mir.Val.{vstruct, has_ty, WT}
use base.Fml.{Lft, Share}
use base.Logic.{never, fst∗, guard_i}
use types.Logic.{Logic, sem}
use types.Kit.{Item, Goal, Seq, Step, step, given, feq_l, learn}
use prog.Routine.{Env}
use prog.Wired.{Wired}
use contract.Monad.{fact_use}
use denote.Builtin.{RawPtr}
use denote.Memory.{lone}
use denote.RawPtr.{rawptr_vals, rawptr_Tells, rawptr_pure, in_a_block, Testable}
use denote.Steps.{owned}
use denote.Param.{layout, arg}
use denote.Param.Laws.{Laws, arg_laws}
use denote.Param.Glue.{Bound}
use denote.Param.NoDrop.{glues}
use denote.Shadow.{makes_shadow}
use denote.Struct.Struct.{Shape, Struct, Struct-Tells, Struct-Makes}
use Rattle.std.specs.contracts.alloc.Global as heap
use Rattle.std.proofs.alloc.Global.TheLaws as heap_laws
use Rattle.std.proofs.GlobalToken.{dealloc_token-Testable}
use Rattle.pmb_handle.proofs.Destruct++none.drop.Code as no_drop
use Rattle.pmb_handle.specs.Owned.{handle_owns}

abbrev pub Z : RattleType
Z = heap.the_row

abbrev pub heap_val : Global → Val
heap_val a = heap_laws.lowered a

abbrev pub word : Ptr → Global → Val
word p a = vstruct (vcons (ptr_val p) (vcons (heap_val a) vnil))

pub heap_good : (a : Global) → T (has_ty (layout Z) (heap_val a)) × WT (heap_val a)
heap_good a = (tt, ((tt, tt), tt))

pub word_good : (p : Ptr) (a : Global)
    → T (has_ty ty_ptr (ptr_val p) && (has_ty (layout Z) (heap_val a) && true)) × WT (word p a)
word_good (block_ptr b o) a = (tt, (tt, (((tt, tt), tt), tt)))
word_good null_ptr a = (tt, (record { fits = lit< tt }, (((tt, tt), tt), tt)))

-- the type argument, by the name that a call passes it under, and the code that lets it go and does nothing
abbrev pub Heap : RattleType
Heap = arg (bare (layout Z)) no Z

abbrev pub heap_row_laws : Laws Heap
heap_row_laws = arg_laws (bare (layout Z)) no Z heap_laws.the_row_laws refl

abbrev pub gone : Dict
gone = impl ("pmb_handle::Destruct++none::drop" ∷ []) (tcons (layout Heap) tnil) dnil

pub lets_go : (γ : Env) → Wired γ no_drop.code → Bound γ Heap gone
unfolding no_drop.code
lets_go γ wired = glues "pmb_handle::Destruct++none::drop" γ wired Heap heap_row_laws

-- the fields, whatever the struct's name
abbrev pub fields : Shape
fields = record { name = []; args = []; types = []; fields = RawPtr ∷ Z ∷ [] }

abbrev pub Words : RattleType
Words = Struct fields

pub word_is : (p : Ptr) (a : Global) (vs : List Val) → Is Words (p, (a, tt)) vs → vs ≡ word p a ∷ []
word_is p a = Struct-Tells fields (rawptr_vals, ((λ x. heap_val x ∷ []), tt))
    (rawptr_Tells, (heap_laws.lowers.val_is, tt)) (p, (a, tt))

pub heap_is : (p : Ptr) (a : Global) (vs : List Val) → Is Words (p, (a, tt)) vs → Is Z a (heap_val a ∷ [])
heap_is p a vs i = subst (Is Z a) (heap_laws.lowers.val_is a i.0.1.0 i.1.1.1.0) i.1.1.1.0

module _ {M : Type 1} {𝓤 : Ura M} {𝓛 : Logic 𝓤} {K : Type 0} {Γ : List (Item 𝓤)} {G : Goal 𝓤 𝓛.H} where
  pub heap_in : K → (a : Global) → Is Z a (heap_val a ∷ []) → Step K 𝓛 (‵ (Z.own_val a (heap_val a ∷ [])) ∷ Γ) G Γ G
  heap_in t a = owned t Z (Is Z) (λ x vs. makes_shadow 𝓛 (Z.own_val x vs) (heap_laws.the_row_plain x vs))
      a (heap_val a ∷ [])

  pub words_in : K → (p : Ptr) (a : Global) → Is Z a (heap_val a ∷ [])
      → Step K 𝓛 (‵ (Words.own_val (p, (a, tt)) (word p a ∷ [])) ∷ Γ) G Γ G
  words_in t p a i =
      owned t Words (Is Words) (Struct-Makes 𝓛 fields (rawptr_pure, (heap_laws.the_row_plain, tt)))
      (p, (a, tt)) (word p a ∷ []) ((ptr_val p ∷ [], (heap_val a ∷ [], tt)), (refl, (refl, (i, tt))))

  pub longer : K → (κ : Lft) (q : Share)
      → Step K 𝓛 ((‵ (flft κ q) ⊛ ‵ (flft [] full_share) ⊛ ‵ ftrue) ∷ Γ) G ((‵ (flft κ q) ⊛ ‵ ftrue) ∷ Γ) G
  longer t κ q = step (λ s. split t $ move t (1 ∷ []) $
      use0 𝓛 (‵ (flft [] full_share)) (𝓛.lfts.lft-nil full_share) $ join t $ move t (1 ∷ 0 ∷ []) $ join t $ s)

  pub shorter : K → (κ : Lft) (q : Share)
      → Step K 𝓛 ((‵ (flft κ q) ⊛ ‵ ftrue) ∷ Γ) G ((‵ (flft κ q) ⊛ ‵ (flft [] full_share) ⊛ ‵ ftrue) ∷ Γ) G
  shorter t κ q = step (λ s. split3 t $ move t (1 ∷ []) $ drop t $ join t $ s)

  pub asks : K → (φ : Type 0) (i : Item 𝓤)
      → Step K 𝓛 ((raw (fact 𝓤 φ) ⊛ raw (fact 𝓤 ([] ⊑ Z.lives)) ⊛ i) ∷ Γ) G ((raw (fact 𝓤 φ) ⊛ ‵ ftrue) ∷ i ∷ Γ) G
  asks t φ i = let lasts = [] ⊑ Z.lives in step (λ s. split t $ move t (1 ∷ []) $ drop t $ move t (1 ∷ []) $
      use0 𝓛 (raw (fact 𝓤 lasts)) (fact_i 𝓤 lasts (emp 𝓤) (heap_laws.the_within [])) $
      join t $ move t (1 ∷ 0 ∷ []) $ join t $ s)

  -- who may free a block may test its pointer, so that right is opened, asked and shut again
  module _ (R : RattleType) (a : Global) where
    pub either_held : K → (p : Ptr) (o : Option R.Denot) → (p ≡ null_ptr → o ≡ None → Seq K 𝓛 Γ G)
        → ((b n : ℕ) (x : R.Denot) → p ≡ block_ptr b n → o ≡ Some x → Testable (block_ptr b n)
        → Seq K 𝓛 (‵ (handle_owns R a (block_ptr b n) (Some x)) ∷ Γ) G)
        → Seq K 𝓛 (‵ (handle_owns R a p o) ∷ Γ) G
    either_held t p None none one = feq_l t (λ e. none e refl)
    either_held t p (Some x) none one =
        let τ = bare (lone R.mir) in let frees = ghosts.dealloc_token a τ in
        fsplit t $ move t (1 ∷ []) $ use1 𝓛 (given (Testable p) (‵ (frees p)))
        (fact_use 𝓤 (Testable p) (dealloc_token-Testable 𝓛 a τ p) (guard_i 𝓤 (Testable p) (sem 𝓛 (frees p)))) $
        learn t (λ test. move t (1 ∷ 0 ∷ []) $ fjoin t $
        in_a_block t p (λ q. handle_owns R a q (Some x)) (fst∗ 𝓤 (never 𝓤) (sem 𝓛 (frees null_ptr)))
        (λ b n e. one b n x e refl (subst Testable e test)))
